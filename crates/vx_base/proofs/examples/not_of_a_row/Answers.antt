use Rattle.std.proofs.Common.{refl}
use Rattle.vx_base.proofs.examples.not_of_a_row.Goals as goal

pub returns : goal.returns
returns c = refl
