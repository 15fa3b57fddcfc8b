use Rattle.std.proofs.Common.{◌≡◌, false, length}
use Rattle.pgm_images.proofs.Common.{past_blanks}
use Rattle.pgm_images.proofs.marks.past_blanks.Given as goal

abbrev pub invariant-loop-byte : goal.invariant-loop-byte
invariant-loop-byte l = past_blanks l.within l.rest ≡ past_blanks false l.text

abbrev pub decreases-loop-byte : goal.decreases-loop-byte
decreases-loop-byte l = length l.rest
