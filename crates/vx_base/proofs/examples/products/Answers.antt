use Rattle.std.proofs.Common.{refl}
use Rattle.vx_base.proofs.examples.products.Goals as goal

pub returns-clause-nearest : goal.returns-clause-nearest
returns-clause-nearest c = refl

pub returns-clause-wrapped : goal.returns-clause-wrapped
returns-clause-wrapped c = refl

pub returns-clause-scaled_nearest : goal.returns-clause-scaled_nearest
returns-clause-scaled_nearest c = refl

pub returns-clause-scaled_wrapped : goal.returns-clause-scaled_wrapped
returns-clause-scaled_wrapped c = refl

pub returns-clause-to_zero : goal.returns-clause-to_zero
returns-clause-to_zero c = refl
