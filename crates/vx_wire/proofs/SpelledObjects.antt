-- Tables, thresholds and convolutions are read back from their bytes.
use Rattle.std.proofs.Common.{◌≡◌, ◌≢◌, ℕ, ℤ, ◌*◌, List, [], ◌∷◌, ◌++◌, Some, None, Ok, IsTrue, int_le, if◌then◌else◌, refl, length, append_assoc}
use Rattle.vx_wire.proofs.Common.{Format, U8, S16, U32, ThresholdKind, Binary, Range, IsSample, range_size, LutValue, IsLut, ThresholdValue, is_sample, has_limits, IsThreshold, ConvolutionValue, IsConvolution, InvalidValue, take_input_format, format_number, encoded_sample, take_lut, lut_bytes, is_range, range_number, take_signed, take_is_range, take_limit, take_upper, take_limits, take_threshold, limit_bytes, threshold_bytes, take_convolution, convolution_bytes}
use Rattle.vx_wire.proofs.SpelledFields.{allowed_back, bytes_back, taken_back}
use Rattle.vx_wire.proofs.SampleBytes.{length-encoded_sample, sample_back}
use Rattle.vx_wire.proofs.TableSizes.{input_of, count_of, sample_of, binary_of, range_of, ConvolutionParts, convolution_parts}

format_back : (format : Format) (rest : List ℕ)
    → format ≢ U32
    → take_input_format (format_number format ∷ rest) ≡ Ok (format, rest)
format_back U8 rest input = refl
format_back S16 rest input = refl
format_back U32 rest input = absurd (input refl)

pub lut_back : (lut : LutValue) (rest : List ℕ)
    → IsLut lut
    → take_lut (lut_bytes lut ++ rest) ≡ Ok (lut, rest)
lut_back lut rest is =
    let count = length lut.entries in
    rw (
      format_back lut.format _ (input_of lut.format count is.full),
      taken_back lut.format (range_size lut.format) lut.entries rest
          (count_of lut.format count is.full) is.sampled,
    ) refl

-- ---- thresholds

-- a limit, from the two bytes that encode it
signed_back : (z : ℤ) (rest : List ℕ)
    → IsSample S16 z
    → take_signed (encoded_sample S16 z ++ rest) ≡ Ok (z, rest)
signed_back z rest is =
    rw (
      bytes_back 2 (encoded_sample S16 z) rest (length-encoded_sample S16 z),
      sample_back S16 z is,
    ) refl

limit_back : (format : Format) (z : ℤ) (rest : List ℕ)
    → format ≢ U32
    → IsTrue (is_sample format z)
    → take_limit format (encoded_sample S16 z ++ rest) ≡ Ok (z, rest)
limit_back format z rest input is =
    allowed_back (take_signed (encoded_sample S16 z ++ rest)) z z rest InvalidValue
    (λ z. if is_sample format z then Some z else None)
    (signed_back z rest (sample_of format input z is)) (rw is refl)

upper_back : (format : Format) (lower z : ℤ) (rest : List ℕ)
    → format ≢ U32
    → IsTrue (is_sample format z)
    → IsTrue (int_le lower z)
    → take_upper format lower (encoded_sample S16 z ++ rest) ≡ Ok (z, rest)
upper_back format lower z rest input is ordered =
    allowed_back (take_limit format (encoded_sample S16 z ++ rest)) z z rest InvalidValue
    (λ z. if int_le lower z then Some z else None) (limit_back format z rest input is)
    (rw ordered refl)

kind_back : (kind : ThresholdKind) (rest : List ℕ)
    → take_is_range (range_number (is_range kind) ∷ rest) ≡ Ok (is_range kind, rest)
kind_back (Binary t) rest = refl
kind_back (Range lower upper) rest = refl

limits_back : (format : Format) (kind : ThresholdKind) (rest : List ℕ)
    → IsTrue (has_limits format kind)
    → take_limits (is_range kind) format (limit_bytes kind ++ rest) ≡ Ok (kind, rest)
limits_back format (Binary t) rest is =
    let (input, sample) = binary_of format t is in rw (limit_back format t rest input sample) refl
limits_back format (Range lower upper) rest is =
    let (input, low, up, ordered) = range_of format lower upper is in
    rw (
      limit_back format lower _ input low,
      upper_back format lower upper rest input up ordered,
    ) refl

limits_input : (format : Format) (kind : ThresholdKind)
    → IsTrue (has_limits format kind)
    → format ≢ U32
limits_input format (Binary t) is = (binary_of format t is).0
limits_input format (Range lower upper) is = (range_of format lower upper is).0

pub threshold_back : (t : ThresholdValue) (rest : List ℕ)
    → IsThreshold t
    → take_threshold (threshold_bytes t ++ rest) ≡ Ok (t, rest)
threshold_back t rest is =
    rw (
      append_assoc (limit_bytes t.kind) (t.true_value ∷ t.false_value ∷ []) rest,
      kind_back t.kind _,
      format_back t.format _ (limits_input t.format t.kind is.limits),
    )
    (rw (limits_back t.format t.kind _ is.limits) refl)

-- ---- convolutions

pub convolution_back : (c : ConvolutionValue) (rest : List ℕ)
    → IsConvolution c
    → take_convolution (convolution_bytes c ++ rest) ≡ Ok (c, rest)
convolution_back c rest is =
    let parts : ConvolutionParts c.columns c.rows c.exponent (length c.coefficients) =
    convolution_parts c.columns c.rows c.exponent (length c.coefficients) is.shape in
    rw (
      parts.across,
      parts.down,
      parts.power,
      taken_back S16 (c.rows * c.columns) c.coefficients rest parts.many is.each,
    ) refl
