-- Sums modulo 2 ^ 32 are samples of U32.
use Rattle.std.proofs.Common.{◌≡◌, ℕ, ◌+◌, ◌%◌, ◌<◌, arith, unsigned_abs}
use Rattle.vx_base.proofs.Common.{ints, Format, U32, IsSample, whole_rectangle, meet_of, ImageValue, IsImage}
use Rattle.std.specs.List.{sum_by}
use Rattle.vx_base.specs.Statistics.{samples_in, sum_to, sums_in}
use Rattle.vx_base.proofs.ImageLaws.{made_image}

sum_sample : (a : ImageValue) (x y : ℕ) → IsSample U32 (sum_to a x y)
sum_sample a x y =
    let sum =
    sum_by unsigned_abs (samples_in (meet_of a.valid (whole_rectangle (x + 1) (y + 1))) a) in
    let below : sum % 4294967296 < 4294967296 = omega arith in
    record { at_least = omega (arith, ints); at_most = omega (arith, ints) }

pub sums_image : (a : ImageValue)
    → IsImage a
    → (format : Format)
    → U32 ≡ format
    → IsImage (sums_in format a)
sums_image a h format e =
    rw (← e)
    (made_image a.width a.height U32 a.valid (sum_to a) h.sides.width h.sides.height h.canonical
    h.room (λ x y e. sum_sample a x y))
