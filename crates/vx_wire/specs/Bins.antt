-- The bins of a distribution: their number, the offset and the range.
-- OpenVX 1.3, "Object: Distribution".
use Rattle.std.specs.Prelude.{ℕ, ◌&&◌, Bool, if◌then◌else◌, nat_le, nat_lt, List, ◌++◌, Some, None, Ok}
use Rattle.std.specs.Int.{w16, to_be_bytes}
use Rattle.vx_base.specs.Statistics.{BinsValue}
use Rattle.vx_wire.specs.declared.body_fault.BodyFault.TheVariants.{InvalidValue}
use Rattle.vx_wire.specs.Fields.{FieldResult, and_then, allowed_or_fault, take_short}

-- whether `n` is from 1 to 256, as a number of bins or a `range` must be
abbrev pub is_up_to_256 : ℕ → Bool
is_up_to_256 n = nat_le 1 n && nat_le n 256

-- reads a number of bins or a `range` from the front of a body: a u16 from 1 to 256
abbrev pub take_up_to_256 : List ℕ → FieldResult ℕ
take_up_to_256 body =
    and_then (take_short body)
    (λ n rest. allowed_or_fault InvalidValue (if is_up_to_256 n then Some n else None) rest)

-- reads an `offset` from the front of a body: a u16 from 0 to 255
abbrev pub take_offset : List ℕ → FieldResult ℕ
take_offset body =
    and_then (take_short body)
    (λ n rest. allowed_or_fault InvalidValue (if nat_lt n 256 then Some n else None) rest)

-- reads a distribution's bins from the front of a body: their number, the `offset`, the `range`
abbrev pub take_bins : List ℕ → FieldResult BinsValue
take_bins body =
    and_then (take_up_to_256 body)
    (λ bins rest. and_then (take_offset rest)
    (λ offset rest. and_then (take_up_to_256 rest) (λ range rest.
    Ok (record { bins = bins; offset = offset; range = range }, rest))))

-- the bytes of a distribution's bins: their number, the `offset`, the `range`
abbrev pub bins_bytes : BinsValue → List ℕ
bins_bytes b = to_be_bytes w16 b.bins ++ (to_be_bytes w16 b.offset ++ to_be_bytes w16 b.range)
