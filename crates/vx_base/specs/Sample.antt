-- Samples are whole numbers; a format is a range of them.
use Rattle.std.specs.Prelude.{ℕ, ℤ, pos, negsuc, Bool, true, false, ◌≡◌, ◌≤ℤ◌, ◌+ℤ◌, ◌-ℤ◌, ◌*ℤ◌, if◌then◌else◌, int_lt, unsigned_abs}
use Rattle.std.specs.Int.{int_rem_euclid, int_max, int_min}
use Rattle.vx_base.specs.declared.format.Format.{Format}
use Rattle.vx_base.specs.declared.format.Format.TheVariants.{U8, S16, U32}
use Rattle.vx_base.specs.declared.policy.Policy.{Policy}
use Rattle.vx_base.specs.declared.policy.Policy.TheVariants.{Wrap, Saturate}

-- the size of one sample in bytes
abbrev pub sample_bytes : Format → ℕ
sample_bytes U8 = 1
sample_bytes S16 = 2
sample_bytes U32 = 4

-- whether two formats are equal
abbrev pub same_format : Format → Format → Bool
same_format U8 U8 = true
same_format S16 S16 = true
same_format U32 U32 = true
same_format a b = false

-- the number of samples in the format's range
abbrev pub range_size : Format → ℕ
range_size U8 = 256
range_size S16 = 65536
range_size U32 = 4294967296

-- the least sample of a format
abbrev pub min_sample : Format → ℤ
min_sample U8 = pos 0
min_sample S16 = negsuc 32767
min_sample U32 = pos 0

-- the greatest sample of a format
abbrev pub max_sample : Format → ℤ
max_sample U8 = pos 255
max_sample S16 = pos 32767
max_sample U32 = pos 4294967295

-- a number in the format's range
pub record IsSample (format : Format) (z : ℤ) : Type 0 where
  pub at_least : min_sample format ≤ℤ z
  pub at_most : z ≤ℤ max_sample format

-- v and z differ by a multiple of m
abbrev pub AgreesModulo : ℕ → ℤ → ℤ → Type 0
AgreesModulo m v z = (k : ℤ) × (v ≡ z +ℤ k *ℤ pos m)

-- the distance between two numbers
abbrev pub distance : ℤ → ℤ → ℕ
distance v z = unsigned_abs (v -ℤ z)

-- for a number from 0 to 65,535, the number from -32,768 to 32,767 that agrees with it modulo
-- 65,536
abbrev pub signed_of : ℤ → ℤ
signed_of m = if int_lt m (pos 32768) then m else (m -ℤ pos 65536)

-- the sample that agrees with v modulo the size of the format's range
abbrev pub wrap : Format → ℤ → ℤ
wrap U8 v = int_rem_euclid v (pos 256)
wrap S16 v = signed_of (int_rem_euclid v (pos 65536))
wrap U32 v = int_rem_euclid v (pos 4294967296)

-- the sample nearest to v
abbrev pub clamp : Format → ℤ → ℤ
clamp format v = int_max (min_sample format) (int_min v (max_sample format))

-- v narrowed to a sample under the overflow policy
abbrev pub narrow : Format → Policy → ℤ → ℤ
narrow format Wrap v = wrap format v
narrow format Saturate v = clamp format v
