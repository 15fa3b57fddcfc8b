use Rattle.std.proofs.Common.{refl}
use Rattle.vx_base.proofs.examples.and_of_halves.Goals as goal

pub returns : goal.returns
returns c = refl
