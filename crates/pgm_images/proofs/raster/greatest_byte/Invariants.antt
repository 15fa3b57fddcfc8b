use Rattle.std.proofs.Common.{◌≡◌, ℕ, take, nat_le}
use Rattle.pgm_images.proofs.Common.{all_up_to}
use Rattle.pgm_images.proofs.raster.greatest_byte.Given as goal

abbrev pub invariant-loop-byte : goal.invariant-loop-byte
invariant-loop-byte l = (n : ℕ) → nat_le l.greatest n ≡ all_up_to n (take l.byte-index l.bytes)
