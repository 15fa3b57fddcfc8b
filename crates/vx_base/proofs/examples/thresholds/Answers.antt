use Rattle.std.proofs.Common.{refl}
use Rattle.vx_base.proofs.examples.thresholds.Goals as goal

pub returns-clause-below : goal.returns-clause-below
returns-clause-below c = refl

pub returns-clause-lower : goal.returns-clause-lower
returns-clause-lower c = refl

pub returns-clause-upper : goal.returns-clause-upper
returns-clause-upper c = refl

pub returns-clause-above : goal.returns-clause-above
returns-clause-above c = refl

pub returns-clause-limit : goal.returns-clause-limit
returns-clause-limit c = refl

pub returns-clause-above_limit : goal.returns-clause-above_limit
returns-clause-above_limit c = refl
