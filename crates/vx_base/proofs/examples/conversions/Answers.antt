use Rattle.std.proofs.Common.{refl}
use Rattle.vx_base.proofs.examples.conversions.Goals as goal

pub returns-clause-wrapped : goal.returns-clause-wrapped
returns-clause-wrapped c = refl

pub returns-clause-nearest : goal.returns-clause-nearest
returns-clause-nearest c = refl

pub returns-clause-widened : goal.returns-clause-widened
returns-clause-widened c = refl
