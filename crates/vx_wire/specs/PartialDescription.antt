-- Partial descriptions of virtual images: the format, the width and the height. Each is 0 if it is
-- open. OpenVX 1.3, "Object: Image", vxCreateVirtualImage.
use Rattle.std.specs.Prelude.{ℕ, ◌==◌, if◌then◌else◌, List, ◌∷◌, ◌++◌, Option, Some, None, unwrap_or, Ok}
use Rattle.std.specs.Int.{w16, to_be_bytes}
use Rattle.vx_base.specs.Description.{is_side}
use Rattle.vx_base.specs.PartialDescription.{PartialDescription}
use Rattle.vx_wire.specs.declared.body_fault.BodyFault.TheVariants.{InvalidDimension}
use Rattle.vx_wire.specs.Fields.{FieldResult, and_then, allowed_or_fault, take_short}
use Rattle.vx_wire.specs.Format.{open_format_number, take_open_format}

-- the number that encodes a width or height; 0 if the side is open
abbrev pub open_side_number : Option ℕ → ℕ
open_side_number side = unwrap_or side 0

-- the width or height that this number encodes; 0 means that the side is open
abbrev pub open_side_numbered : ℕ → Option (Option ℕ)
open_side_numbered n = if n == 0 then Some None else if is_side n then Some (Some n) else None

-- reads a width or height, which may be open, from the front of a body: a u16 from 1 to 8192, or 0
-- for open
abbrev pub take_open_side : List ℕ → FieldResult (Option ℕ)
take_open_side body =
    and_then (take_short body)
    (λ n rest. allowed_or_fault InvalidDimension (open_side_numbered n) rest)

-- reads a partial description from the front of a body: the format, the width, the height
abbrev pub take_partial_desc : List ℕ → FieldResult PartialDescription
take_partial_desc body =
    and_then (take_open_format body)
    (λ format rest. and_then (take_open_side rest)
    (λ width rest. and_then (take_open_side rest) (λ height rest.
    Ok (record { width = width; height = height; format = format }, rest))))

-- the bytes of a partial description: the format, the width, the height
abbrev pub partial_desc_bytes : PartialDescription → List ℕ
partial_desc_bytes o =
    open_format_number o.format
    ∷ (to_be_bytes w16 (open_side_number o.width) ++ to_be_bytes w16 (open_side_number o.height))
