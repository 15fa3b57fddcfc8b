use Rattle.std.proofs.Common.{refl}
use Rattle.vx_base.proofs.examples.differences.Goals as goal

pub returns-clause-nearest : goal.returns-clause-nearest
returns-clause-nearest c = refl

pub returns-clause-wrapped : goal.returns-clause-wrapped
returns-clause-wrapped c = refl

pub returns-clause-widened : goal.returns-clause-widened
returns-clause-widened c = refl

pub returns-clause-absolute : goal.returns-clause-absolute
returns-clause-absolute c = refl

pub returns-clause-absolute_of_ends : goal.returns-clause-absolute_of_ends
returns-clause-absolute_of_ends c = refl
