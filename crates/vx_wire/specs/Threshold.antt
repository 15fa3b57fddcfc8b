-- Thresholds: the kind, the format, one limit or two, the true value and the false value.
-- OpenVX 1.3, "Object: Threshold".
use Rattle.std.specs.Prelude.{ℕ, ℤ, Bool, true, false, int_le, if◌then◌else◌, List, [], ◌∷◌, ◌++◌, Option, Some, None, Ok}
use Rattle.vx_base.specs.declared.format.Format.{Format}
use Rattle.vx_base.specs.declared.format.Format.TheVariants.{S16}
use Rattle.vx_base.specs.declared.threshold.ThresholdKind.{ThresholdKind}
use Rattle.vx_base.specs.declared.threshold.ThresholdKind.TheVariants.{Binary, Range}
use Rattle.vx_base.specs.Threshold.{ThresholdValue, is_sample}
use Rattle.vx_wire.specs.declared.body_fault.BodyFault.TheVariants.{InvalidParameters, InvalidValue}
use Rattle.vx_wire.specs.Numbered.{with_number}
use Rattle.vx_wire.specs.Fields.{FieldResult, and_then, allowed_or_fault, take_byte, take_bytes}
use Rattle.vx_wire.specs.Format.{format_number, take_input_format}
use Rattle.vx_wire.specs.Samples.{decoded_sample, encoded_sample}

-- whether a threshold has a lower and an upper limit
abbrev pub is_range : ThresholdKind → Bool
is_range (Binary t) = false
is_range (Range lower upper) = true

-- the number of a threshold's kind: 0 is BINARY and 1 is RANGE
abbrev pub range_number : Bool → ℕ
range_number false = 0
range_number true = 1

-- whether the kind with this number is RANGE; None if no kind has the number
abbrev pub range_numbered : ℕ → Option Bool
range_numbered n = with_number range_number (false ∷ true ∷ []) n

-- reads a threshold's kind from the front of a body: a byte, 0 for BINARY or 1 for RANGE
abbrev pub take_is_range : List ℕ → FieldResult Bool
take_is_range body =
    and_then (take_byte body) (λ n rest. allowed_or_fault InvalidParameters (range_numbered n) rest)

-- reads a limit from the front of a body: an S16 sample, whatever the threshold's format
abbrev pub take_signed : List ℕ → FieldResult ℤ
take_signed body = and_then (take_bytes 2 body) (λ bytes rest. Ok (decoded_sample S16 bytes, rest))

-- reads a limit from the front of a body, and checks that it is a sample of the threshold's format
abbrev pub take_limit : Format → List ℕ → FieldResult ℤ
take_limit format body =
    and_then (take_signed body)
    (λ z rest. allowed_or_fault InvalidValue (if is_sample format z then Some z else None) rest)

-- reads the upper limit from the front of a body, and checks that it is not below the lower limit
abbrev pub take_upper : Format → ℤ → List ℕ → FieldResult ℤ
take_upper format lower body =
    and_then (take_limit format body)
    (λ z rest. allowed_or_fault InvalidValue (if int_le lower z then Some z else None) rest)

-- reads the limits of a threshold from the front of a body: one for BINARY, the lower and the upper
-- for RANGE
abbrev pub take_limits : Bool → Format → List ℕ → FieldResult ThresholdKind
take_limits false format body = and_then (take_limit format body) (λ t rest. Ok (Binary t, rest))
take_limits true format body =
    and_then (take_limit format body)
    (λ lower rest. and_then (take_upper format lower rest)
    (λ upper rest. Ok (Range lower upper, rest)))

-- reads a threshold from the front of a body: the kind, the format, the limits, the true value, the
-- false value
abbrev pub take_threshold : List ℕ → FieldResult ThresholdValue
take_threshold body =
    and_then (take_is_range body) (λ range rest. and_then (take_input_format rest) (λ format rest.
    and_then (take_limits range format rest) (λ kind rest.
    and_then (take_byte rest) (λ true_value rest. and_then (take_byte rest) (λ false_value rest.
    Ok (
      record
          { format = format; kind = kind; true_value = true_value; false_value = false_value },
      rest,
    ))))))

-- the bytes of a threshold's limits, as S16 samples: one for BINARY, the lower and the upper for
-- RANGE
abbrev pub limit_bytes : ThresholdKind → List ℕ
limit_bytes (Binary t) = encoded_sample S16 t
limit_bytes (Range lower upper) = encoded_sample S16 lower ++ encoded_sample S16 upper

-- the bytes of a threshold: the kind, the format, the limits, the true value, the false value
abbrev pub threshold_bytes : ThresholdValue → List ℕ
threshold_bytes t =
    range_number (is_range t.kind)
    ∷ format_number t.format
    ∷ (limit_bytes t.kind ++ t.true_value ∷ t.false_value ∷ [])
