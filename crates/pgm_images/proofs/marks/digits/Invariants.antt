use Rattle.std.proofs.Common.{◌≡◌, ℕ, min, length}
use Rattle.pgm_images.proofs.Common.{digits_after}
use Rattle.pgm_images.proofs.marks.digits.Given as goal

abbrev pub invariant-loop-byte : goal.invariant-loop-byte
invariant-loop-byte l =
    (n : ℕ) × (digits_after n l.rest ≡ digits_after 0 l.text) × (l.number ≡ min n 65535)

abbrev pub decreases-loop-byte : goal.decreases-loop-byte
decreases-loop-byte l = length l.rest
