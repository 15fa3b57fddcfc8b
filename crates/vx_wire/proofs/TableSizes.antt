-- Tables and thresholds are of U8 or S16; what the numbers of a convolution are.
use Rattle.std.proofs.Common.{◌≡◌, ◌≢◌, ℕ, ℤ, ◌≤◌, ◌*◌, ◌≤ℤ◌, nat_le, int_le, T, IsTrue, arith, refl, sym, subst, eqb-true, eq-eqb}
use Rattle.vx_wire.proofs.Common.{nat_tests, ints, Format, U8, S16, U32, Binary, Range, IsSample, range_size, sample_bytes, is_full, is_sample, has_limits, is_odd_side}
use Rattle.std.specs.Int.Signed.{le_z_yes}
use Rattle.vx_base.specs.Convolution.{is_convolution}

-- ---- how many entries a table has

pub full_of : (format : Format) → format ≢ U32 → IsTrue (is_full format (range_size format))
full_of U8 input = refl
full_of S16 input = refl
full_of U32 input = absurd (input refl)

pub input_of : (format : Format) (count : ℕ) → IsTrue (is_full format count) → format ≢ U32
input_of U8 count full = λ e. cc
input_of S16 count full = λ e. cc
input_of U32 count full = λ e. cc

pub count_of : (format : Format) (count : ℕ)
    → IsTrue (is_full format count)
    → count ≡ range_size format
count_of U8 count full = eqb-true count 256 full
count_of S16 count full = eqb-true count 65536 full
count_of U32 count full = cc

pub bytes_most : (format : Format) (count : ℕ)
    → IsTrue (is_full format count)
    → count * sample_bytes format ≤ 131072
bytes_most U8 count full = omega (arith, eqb-true count 256 full)
bytes_most S16 count full = omega (arith, eqb-true count 65536 full)
bytes_most U32 count full = cc

-- ---- the limits of a threshold

pub in_order : (a b : ℤ) → IsTrue (int_le a b) → a ≤ℤ b
in_order a b is = le_z_yes (subst T (sym is) tt)

-- a sample of U8 is one of S16
pub sample_of : (format : Format)
    → format ≢ U32
    → (z : ℤ)
    → IsTrue (is_sample format z)
    → IsSample S16 z
sample_of U8 input z is = record {
  at_least = grind (arith, ints, nat_tests);
  at_most = grind (arith, ints, nat_tests);
}
sample_of S16 input z is = record {
  at_least = grind (arith, ints, nat_tests);
  at_most = grind (arith, ints, nat_tests);
}
sample_of U32 input z is = absurd (input refl)

pub has_binary : (format : Format)
    → format ≢ U32
    → (t : ℤ)
    → IsTrue (is_sample format t)
    → IsTrue (has_limits format (Binary t))
has_binary U8 input t is = is
has_binary S16 input t is = is
has_binary U32 input t is = absurd (input refl)

pub has_range : (format : Format)
    → format ≢ U32
    → (lower upper : ℤ)
    → IsTrue (is_sample format lower)
    → IsTrue (is_sample format upper)
    → IsTrue (int_le lower upper)
    → IsTrue (has_limits format (Range lower upper))
has_range U8 input lower upper low up ordered = rw (low, up, ordered) refl
has_range S16 input lower upper low up ordered = rw (low, up, ordered) refl
has_range U32 input lower upper low up ordered = absurd (input refl)

pub binary_of : (format : Format) (t : ℤ)
    → IsTrue (has_limits format (Binary t))
    → (format ≢ U32) × IsTrue (is_sample format t)
binary_of U8 t is = (λ e. cc, is)
binary_of S16 t is = (λ e. cc, is)
binary_of U32 t is = cc

pub range_of : (format : Format) (lower upper : ℤ) → IsTrue (has_limits format (Range lower upper))
    → (format ≢ U32)
    × IsTrue (is_sample format lower)
    × IsTrue (is_sample format upper)
    × IsTrue (int_le lower upper)
range_of U8 lower upper is =
    (λ e. cc, grind (arith, nat_tests), grind (arith, nat_tests), grind (arith, nat_tests))
range_of S16 lower upper is =
    (λ e. cc, grind (arith, nat_tests), grind (arith, nat_tests), grind (arith, nat_tests))
range_of U32 lower upper is = cc

-- ---- the numbers of a convolution

pub record ConvolutionParts (columns rows exponent count : ℕ) : Type 0 where
  pub across : IsTrue (is_odd_side columns)
  pub down : IsTrue (is_odd_side rows)
  pub power : IsTrue (nat_le exponent 31)
  pub many : count ≡ rows * columns

pub convolution_parts : (columns rows exponent count : ℕ)
    → IsTrue (is_convolution columns rows exponent count)
    → ConvolutionParts columns rows exponent count
convolution_parts columns rows exponent count is =
    record {
      across = grind (arith, nat_tests);
      down = grind (arith, nat_tests);
      power = grind (arith, nat_tests);
      many = grind (arith, nat_tests);
    }

pub convolution_from_parts : (columns rows exponent count : ℕ)
    → IsTrue (is_odd_side columns)
    → IsTrue (is_odd_side rows)
    → IsTrue (nat_le exponent 31)
    → count ≡ rows * columns
    → IsTrue (is_convolution columns rows exponent count)
convolution_from_parts columns rows exponent count across down power many =
    rw (across, down, power, eq-eqb count (rows * columns) many) refl
