use Rattle.std.proofs.Common.{pos, refl}
use Rattle.image_core.proofs.HeldRows.{zeros_taken}
use Rattle.image_core.proofs.sample.U8Sample.zeros.Goals as goal

pub returns : goal.returns
returns c = zeros_taken pos 0 c.args.count refl c.requires
