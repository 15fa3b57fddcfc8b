-- Convolutions: the number of columns, the number of rows, the exponent, and then the coefficients
-- row by row from the top. All coefficients are one field. OpenVX 1.3, "Object: Convolution".
use Rattle.std.specs.Prelude.{ℕ, ◌*◌, if◌then◌else◌, nat_le, List, ◌∷◌, Some, None, Ok}
use Rattle.vx_base.specs.declared.format.Format.TheVariants.{S16}
use Rattle.vx_base.specs.Convolution.{ConvolutionValue, is_odd_side}
use Rattle.vx_wire.specs.declared.body_fault.BodyFault.TheVariants.{InvalidDimension, InvalidValue}
use Rattle.vx_wire.specs.Fields.{FieldResult, and_then, allowed_or_fault, take_byte}
use Rattle.vx_wire.specs.Samples.{encoded_samples, take_samples}

-- reads the number of columns or rows from the front of a body: a byte that is 3, 5, 7 or 9
abbrev pub take_odd_side : List ℕ → FieldResult ℕ
take_odd_side body =
    and_then (take_byte body)
    (λ n rest. allowed_or_fault InvalidDimension (if is_odd_side n then Some n else None) rest)

-- reads the exponent n of the scale 2^n from the front of a body: a byte from 0 to 31
abbrev pub take_exponent : List ℕ → FieldResult ℕ
take_exponent body =
    and_then (take_byte body)
    (λ n rest. allowed_or_fault InvalidValue (if nat_le n 31 then Some n else None) rest)

-- reads a convolution from the front of a body: the numbers of columns and rows, the exponent, the
-- coefficients as S16 samples
abbrev pub take_convolution : List ℕ → FieldResult ConvolutionValue
take_convolution body =
    and_then (take_odd_side body)
    (λ columns rest. and_then (take_odd_side rest)
    (λ rows rest. and_then (take_exponent rest) (λ exponent rest.
    and_then (take_samples S16 (rows * columns) rest) (λ coefficients rest.
    Ok (
      record
          { columns = columns; rows = rows; exponent = exponent; coefficients = coefficients },
      rest,
    )))))

-- the bytes of a convolution: the numbers of columns and rows, the exponent, the coefficients as
-- S16 samples
abbrev pub convolution_bytes : ConvolutionValue → List ℕ
convolution_bytes c = c.columns ∷ c.rows ∷ c.exponent ∷ encoded_samples S16 c.coefficients
