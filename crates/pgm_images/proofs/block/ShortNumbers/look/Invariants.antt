use Rattle.std.proofs.Common.{◌≡◌, false}
use Rattle.pgm_images.proofs.Common.{FindNumbers}
use Rattle.pgm_images.proofs.block.ShortNumbers.look.Given as goal

abbrev pub invariant-loop-i : goal.invariant-loop-i
invariant-loop-i l = l.others ≡ false → FindNumbers l.maxval l.i l.self.numbers l.self.bytes l.text
