-- The formats of samples (OpenVX 1.3, `vx_df_image_e`), and their numbers. The numbers are this
-- project's own.
use Rattle.std.specs.Prelude.{ℕ, List, [], ◌∷◌, Option, Some, None}
use Rattle.vx_base.specs.declared.format.Format.{Format}
use Rattle.vx_base.specs.declared.format.Format.TheVariants.{U8, S16, U32}
use Rattle.vx_wire.specs.declared.body_fault.BodyFault.TheVariants.{InvalidFormat}
use Rattle.vx_wire.specs.Numbered.{with_number}
use Rattle.vx_wire.specs.Fields.{FieldResult, and_then, allowed_or_fault, take_byte}

-- the number of a format: 1 for U8, 2 for S16, 3 for U32
abbrev pub format_number : Format → ℕ
format_number U8 = 1
format_number S16 = 2
format_number U32 = 3

-- the format with this number
abbrev pub format_numbered : ℕ → Option Format
format_numbered n = with_number format_number (U8 ∷ S16 ∷ U32 ∷ []) n

-- reads a format from the front of a body: a byte from 1 to 3
abbrev pub take_format : List ℕ → FieldResult Format
take_format body =
    and_then (take_byte body) (λ n rest. allowed_or_fault InvalidFormat (format_numbered n) rest)

-- the number of a format; 0 if the format is open
abbrev pub open_format_number : Option Format → ℕ
open_format_number None = 0
open_format_number (Some format) = format_number format

-- the format with this number; 0 means that the format is open
abbrev pub open_format_numbered : ℕ → Option (Option Format)
open_format_numbered n =
    with_number open_format_number (None ∷ Some U8 ∷ Some S16 ∷ Some U32 ∷ []) n

-- reads a format, which may be open, from the front of a body: a byte from 1 to 3, or 0 for an open
-- format
abbrev pub take_open_format : List ℕ → FieldResult (Option Format)
take_open_format body =
    and_then (take_byte body)
    (λ n rest. allowed_or_fault InvalidFormat (open_format_numbered n) rest)

-- the format with this number, if lookup tables and thresholds can have the format
abbrev pub input_format_numbered : ℕ → Option Format
input_format_numbered n = with_number format_number (U8 ∷ S16 ∷ []) n

-- reads the format of a lookup table or threshold from the front of a body: a byte, 1 for U8 or 2
-- for S16
abbrev pub take_input_format : List ℕ → FieldResult Format
take_input_format body =
    and_then (take_byte body)
    (λ n rest. allowed_or_fault InvalidFormat (input_format_numbered n) rest)
