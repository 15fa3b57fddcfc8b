use Rattle.std.proofs.Common.{refl}
use Rattle.vx_base.proofs.examples.narrowed.Goals as goal

pub returns-clause-wrapped_up : goal.returns-clause-wrapped_up
returns-clause-wrapped_up c = refl

pub returns-clause-wrapped_down : goal.returns-clause-wrapped_down
returns-clause-wrapped_down c = refl

pub returns-clause-wrapped_signed : goal.returns-clause-wrapped_signed
returns-clause-wrapped_signed c = refl

pub returns-clause-wrapped_long : goal.returns-clause-wrapped_long
returns-clause-wrapped_long c = refl

pub returns-clause-nearest_above : goal.returns-clause-nearest_above
returns-clause-nearest_above c = refl

pub returns-clause-nearest_below : goal.returns-clause-nearest_below
returns-clause-nearest_below c = refl

pub returns-clause-nearest_signed : goal.returns-clause-nearest_signed
returns-clause-nearest_signed c = refl

pub returns-clause-kept : goal.returns-clause-kept
returns-clause-kept c = refl
