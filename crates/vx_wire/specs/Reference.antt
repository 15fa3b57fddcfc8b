-- References to objects: a name and a slot. Slot 255 means the object itself.
use Rattle.std.specs.Prelude.{ℕ, ◌==◌, if◌then◌else◌, List, [], ◌∷◌, ◌++◌, Option, Some, None, unwrap_or, Ok}
use Rattle.std.specs.Int.{w32, to_be_bytes}
use Rattle.vx_base.specs.Reference.{Reference}
use Rattle.vx_wire.specs.Fields.{FieldResult, and_then, take_byte, take_long}

-- the slot with this number; 255 means the object itself
abbrev pub slot_numbered : ℕ → Option ℕ
slot_numbered n = if n == 255 then None else Some n

-- reads a reference from the front of a body: the name as a u32, then the slot's number as a byte
abbrev pub take_reference : List ℕ → FieldResult Reference
take_reference body =
    and_then (take_long body) (λ name rest. and_then (take_byte rest) (λ slot rest.
    Ok (record { name = name; slot = slot_numbered slot }, rest)))

-- the bytes of a reference: the name, then the slot's number, which is 255 for the object itself
abbrev pub reference_bytes : Reference → List ℕ
reference_bytes cell = to_be_bytes w32 cell.name ++ unwrap_or cell.slot 255 ∷ []
