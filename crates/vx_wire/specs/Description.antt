-- Descriptions of images: the format, the width and the height.
use Rattle.std.specs.Prelude.{ℕ, if◌then◌else◌, List, ◌∷◌, ◌++◌, Some, None, Ok}
use Rattle.std.specs.Int.{w16, to_be_bytes}
use Rattle.vx_base.specs.Description.{Description, is_side}
use Rattle.vx_wire.specs.declared.body_fault.BodyFault.TheVariants.{InvalidDimension}
use Rattle.vx_wire.specs.Fields.{FieldResult, and_then, allowed_or_fault, take_short}
use Rattle.vx_wire.specs.Format.{format_number, take_format}

-- reads a width or a height from the front of a body: a u16 from 1 to 8192
abbrev pub take_side : List ℕ → FieldResult ℕ
take_side body =
    and_then (take_short body)
    (λ n rest. allowed_or_fault InvalidDimension (if is_side n then Some n else None) rest)

-- reads an image's description from the front of a body: the format, the width, the height
abbrev pub take_description : List ℕ → FieldResult Description
take_description body =
    and_then (take_format body)
    (λ format rest. and_then (take_side rest)
    (λ width rest. and_then (take_side rest) (λ height rest.
    Ok (record { width = width; height = height; format = format }, rest))))

-- the bytes of an image's description: the format, the width, the height
abbrev pub description_bytes : Description → List ℕ
description_bytes d = format_number d.format ∷ (to_be_bytes w16 d.width ++ to_be_bytes w16 d.height)
