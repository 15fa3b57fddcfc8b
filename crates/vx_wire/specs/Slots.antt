-- The number of slots of a delay. OpenVX 1.3, "Object: Delay".
use Rattle.std.specs.Prelude.{ℕ, List}
use Rattle.vx_base.specs.Slots.{slot_count}
use Rattle.vx_wire.specs.declared.body_fault.BodyFault.TheVariants.{InvalidValue}
use Rattle.vx_wire.specs.Fields.{FieldResult, and_then, allowed_or_fault, take_byte}

-- reads the number of slots of a delay from the front of a body: a byte from 1 to 16
abbrev pub take_slots : List ℕ → FieldResult ℕ
take_slots body =
    and_then (take_byte body) (λ n rest. allowed_or_fault InvalidValue (slot_count n) rest)
