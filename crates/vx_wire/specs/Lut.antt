-- Lookup tables: the format, and then an entry for each sample value of the format; all entries are
-- one field. OpenVX 1.3, "Object: LUT".
use Rattle.std.specs.Prelude.{ℕ, List, ◌∷◌, Ok}
use Rattle.vx_base.specs.Sample.{range_size}
use Rattle.vx_base.specs.Lut.{LutValue}
use Rattle.vx_wire.specs.Fields.{FieldResult, and_then}
use Rattle.vx_wire.specs.Format.{format_number, take_input_format}
use Rattle.vx_wire.specs.Samples.{encoded_samples, take_samples}

-- reads a lookup table from the front of a body: the format, then the entries, beginning with the
-- entry for the least sample value
abbrev pub take_lut : List ℕ → FieldResult LutValue
take_lut body =
    and_then (take_input_format body)
    (λ format rest. and_then (take_samples format (range_size format) rest) (λ entries rest.
    Ok (record { format = format; entries = entries }, rest)))

-- the bytes of a lookup table: the format, then the entries, beginning with the entry for the least
-- sample value
abbrev pub lut_bytes : LutValue → List ℕ
lut_bytes lut = format_number lut.format ∷ encoded_samples lut.format lut.entries
