use Rattle.std.proofs.Common.{refl}
use Rattle.vx_base.proofs.examples.images.Goals as goal

pub returns-clause-samples : goal.returns-clause-samples
returns-clause-samples c = refl

pub returns-clause-place : goal.returns-clause-place
returns-clause-place c = refl

pub returns-clause-new : goal.returns-clause-new
returns-clause-new c = refl
