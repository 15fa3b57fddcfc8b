use Rattle.std.proofs.Common.{refl}
use Rattle.vx_base.proofs.examples.sums.Goals as goal

pub returns-clause-nearest : goal.returns-clause-nearest
returns-clause-nearest c = refl

pub returns-clause-wrapped : goal.returns-clause-wrapped
returns-clause-wrapped c = refl

pub returns-clause-widened : goal.returns-clause-widened
returns-clause-widened c = refl

pub returns-clause-widened_wrap : goal.returns-clause-widened_wrap
returns-clause-widened_wrap c = refl

pub returns-clause-nearest_short : goal.returns-clause-nearest_short
returns-clause-nearest_short c = refl

pub returns-clause-wrapped_short : goal.returns-clause-wrapped_short
returns-clause-wrapped_short c = refl
