-- A table, a threshold or a convolution that is read has one spelling.
use Rattle.std.proofs.Common.{◌≡◌, ◌≢◌, ℕ, ℤ, ◌*◌, ◌==◌, nat_le, length, [], ◌∷◌, Some, None, Bool, true, false, IsTrue, int_le, if◌then◌else◌, sym, ap, refl, subst, append_assoc, All}
use Rattle.vx_wire.proofs.Common.{All-nil, All-cons, Format, U8, S16, U32, Binary, Range, range_size, is_full, IsLut, is_sample, has_limits, IsThreshold, is_odd_side, IsConvolution, InvalidParameters, InvalidFormat, InvalidDimension, InvalidValue, take_input_format, format_number, decoded_sample, encoded_sample, take_lut, lut_bytes, is_range, range_number, take_is_range, take_signed, take_limit, take_upper, take_limits, take_threshold, limit_bytes, threshold_bytes, take_convolution, convolution_bytes}
use Rattle.vx_wire.specs.Format.{input_format_numbered}
use Rattle.vx_wire.specs.Threshold.{range_numbered}
use Rattle.vx_wire.proofs.ReadFields.{Reads, then_reads, made, one_made, passed, tested, byte_reads, bytes_reads}
use Rattle.vx_wire.proofs.ReadSamples.{samples_reads}
use Rattle.vx_wire.proofs.Numbers.{number_is, found_each}
use Rattle.vx_wire.proofs.SampleBytes.{sample_of_bytes}
use Rattle.vx_wire.proofs.TableSizes.{full_of, has_binary, has_range, convolution_from_parts}

number_of_format : (n : ℕ) (format : Format)
    → input_format_numbered n ≡ Some format
    → (n ≡ format_number format) × (format ≢ U32)
number_of_format n format e =
    let inputs = U8 ∷ S16 ∷ [] in
    let Input : Format → Type 0 = λ f. f ≢ U32 in
    let each : All Input inputs =
    All-cons Input U8 (S16 ∷ []) (λ e. cc) (All-cons Input S16 [] (λ e. cc) (All-nil Input)) in (
      number_is format_number inputs n format e,
      found_each (λ f. n == format_number f) Input inputs format each e,
    )

format_reads :
    Reads [] take_input_format (λ format. format_number format ∷ []) (λ format. format ≢ U32)
format_reads =
    one_made byte_reads InvalidFormat input_format_numbered
    (λ n format below e. let (number, input) = number_of_format n format e in
    (ap (λ x. x ∷ []) number, input))

pub lut_reads : Reads [] take_lut lut_bytes IsLut
lut_reads =
    then_reads format_reads _
    (λ format input. then_reads (samples_reads format (range_size format)) _ (λ entries are.
    made (record { format = format; entries = entries }) refl
    (record {
      full = subst (λ n. IsTrue (is_full format n)) (sym are.0) (full_of format input);
      sampled
          = are.1;
    })))

-- ---- thresholds

is_range_reads : Reads [] take_is_range (λ two. range_number two ∷ []) (λ two. Unit {0})
is_range_reads =
    one_made byte_reads InvalidParameters range_numbered
    (λ n two below e. (ap (λ x. x ∷ []) (number_is range_number (false ∷ true ∷ []) n two e), tt))

signed_reads : Reads [] take_signed (λ z. encoded_sample S16 z) (λ z. Unit {0})
signed_reads =
    then_reads (bytes_reads 2) _
    (λ bytes are. made (decoded_sample S16 bytes)
    (sym (sample_of_bytes S16 bytes are.1 are.0).0) tt)

limit_reads : (format : Format)
    → Reads [] (take_limit format) (λ z. encoded_sample S16 z) (λ z. IsTrue (is_sample format z))
limit_reads format = tested signed_reads InvalidValue (is_sample format)

upper_reads : (format : Format) (lower : ℤ)
    → Reads [] (take_upper format lower) (λ z. encoded_sample S16 z)
    (λ z. IsTrue (is_sample format z) × IsTrue (int_le lower z))
upper_reads format lower =
    one_made (limit_reads format) InvalidValue (λ z. if int_le lower z then Some z else None)
    (λ y z sample e.
    let (same, ordered) = passed (int_le lower) y z e in (
      ap (λ x. encoded_sample S16 x) same,
      (subst (λ x. IsTrue (is_sample format x)) same sample, ordered),
    ))

limits_reads : (two : Bool) (format : Format) → format ≢ U32
    → Reads [] (take_limits two format) limit_bytes
    (λ kind. (range_number two ≡ range_number (is_range kind)) × IsTrue (has_limits format kind))
limits_reads false format input =
    then_reads (limit_reads format) _
    (λ t sample. made (Binary t) refl (refl, has_binary format input t sample))
limits_reads true format input =
    then_reads (limit_reads format) _
    (λ lower low. then_reads (upper_reads format lower) _ (λ upper up.
    made (Range lower upper) refl (refl, has_range format input lower upper low up.0 up.1)))

pub threshold_reads : Reads [] take_threshold threshold_bytes IsThreshold
threshold_reads =
    then_reads is_range_reads _
    (λ two t. then_reads format_reads _
    (λ format input. then_reads (limits_reads two format input) _ (λ kind limits.
    then_reads byte_reads _ (λ a a_below. then_reads byte_reads _ (λ b b_below.
    made (record { format = format; kind = kind; true_value = a; false_value = b })
    (rw (limits.0, append_assoc (limit_bytes kind) (a ∷ []) (b ∷ [])) refl)
    (record { limits = limits.1; true_value = a_below; false_value = b_below }))))))

-- ---- convolutions

pub convolution_reads : Reads [] take_convolution convolution_bytes IsConvolution
convolution_reads =
    let odd_side = tested byte_reads InvalidDimension is_odd_side in
    then_reads odd_side _
    (λ columns across. then_reads odd_side _
    (λ rows down. then_reads (tested byte_reads InvalidValue (λ n. nat_le n 31)) _
    (λ exponent power.
    then_reads (samples_reads S16 (rows * columns)) _ (λ coefficients are.
    made
    (record { columns = columns; rows = rows; exponent = exponent; coefficients = coefficients })
    refl
    (record {
      shape = convolution_from_parts columns rows exponent (length coefficients) across down
          power are.0;
      each = are.1;
    })))))
