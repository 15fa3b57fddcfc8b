-- What wrap gives.
use Rattle.std.proofs.Common.{ℕ, ℤ, pos, negsuc, ◌+ℤ◌, ◌-ℤ◌, ◌<◌, ◌/◌, arith, Bool, true, false, cond, int_lt}
use Rattle.vx_base.proofs.Common.{ints, Format, U8, S16, U32, wrap}
use Rattle.std.specs.Int.{int_rem_euclid}
use Rattle.vx_base.specs.Sample.{AgreesModulo, range_size, signed_of}

-- v agrees with the rest that division leaves
pub rest_agrees : (m : ℕ) (v : ℤ) → 0 < m → AgreesModulo m v (int_rem_euclid v (pos m))
rest_agrees m (pos a) h = (pos (a / m), omega (arith, ints))
rest_agrees m (negsuc a) h = (negsuc (a / m), omega (arith, ints))

-- the upper half of the remainders represents negative numbers
pub signed_agrees : (v m : ℤ) → AgreesModulo 65536 v m → AgreesModulo 65536 v (signed_of m)
signed_agrees v m h = signed (int_lt m (pos 32768)) h
  where
    signed : (b : Bool) → AgreesModulo 65536 v m → AgreesModulo 65536 v (cond b m (m -ℤ pos 65536))
    signed true h = h
    signed false h = (h.0 +ℤ pos 1, omega (arith, ints, h.1))

pub wrap_agrees : (format : Format) (v : ℤ) → AgreesModulo (range_size format) v (wrap format v)
wrap_agrees U8 v = rest_agrees 256 v (omega arith)
wrap_agrees S16 v =
    signed_agrees v (int_rem_euclid v (pos 65536)) (rest_agrees 65536 v (omega arith))
wrap_agrees U32 v = rest_agrees 4294967296 v (omega arith)
