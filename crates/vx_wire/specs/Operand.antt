-- The operands of a node. An absent operand is encoded as name 0 without a slot.
use Rattle.std.specs.Prelude.{ℕ, ◌&&◌, Bool, if◌then◌else◌, List, Option, Some, None, is_some, is_none, Ok}
use Rattle.vx_base.specs.declared.function.Parameters.{Parameters}
use Rattle.vx_base.specs.Reference.{Reference}
use Rattle.vx_base.specs.Node.{is_nothing, is_named}
use Rattle.vx_wire.specs.declared.body_fault.BodyFault.TheVariants.{InvalidParameters}
use Rattle.vx_wire.specs.declared.fields.operand.Presence.{Presence}
use Rattle.vx_wire.specs.declared.fields.operand.Presence.TheVariants.{Required, Absent, Free}
use Rattle.vx_wire.specs.Fields.{FieldResult, and_then, allowed_or_fault}
use Rattle.vx_wire.specs.Reference.{take_reference, reference_bytes}

-- The operand that a reference encodes. There is no result if a required operand is absent, or if
-- the function has no such operand but the reference names one.
abbrev pub operand : Presence → Reference → Option (Option Reference)
operand Required cell = if is_nothing cell then None else Some (Some cell)
operand Absent cell = if is_nothing cell then Some None else None
operand Free cell = if is_nothing cell then Some None else Some (Some cell)

-- reads an operand from the front of a body: a reference that agrees with the operand's presence
abbrev pub take_operand : Presence → List ℕ → FieldResult (Option Reference)
take_operand presence body =
    and_then (take_reference body)
    (λ cell rest. allowed_or_fault InvalidParameters (operand presence cell) rest)

-- the bytes of an operand: its reference, or name 0 without a slot if the operand is absent
abbrev pub operand_bytes : Option Reference → List ℕ
operand_bytes None = reference_bytes (record { name = 0; slot = None })
operand_bytes (Some cell) = reference_bytes cell

-- whether an operand agrees with its presence, and isn't a reference with name 0 and no slot
abbrev pub is_operand : Presence → Option Reference → Bool
is_operand Required cell = is_some cell && is_named cell
is_operand Absent cell = is_none cell
is_operand Free cell = is_named cell

-- ---- the operands of a node, given the parameters of its function

-- the presence of the second input: required if the function has one, else absent
abbrev pub second_input : Parameters → Presence
second_input p = if is_some p.second_input then Required else Absent

-- the presence of the first output: required, or optional if the function has a pair of outputs
abbrev pub first_output : Parameters → Presence
first_output p = if p.output_pair then Free else Required

-- the presence of the second output: absent if the function has no pair of outputs, else required
-- if the first output is absent, else optional
abbrev pub second_output : Parameters → Option Reference → Presence
second_output p out1 = if p.output_pair then (if is_none out1 then Required else Free) else Absent

-- reads the first input from the front of a body: a reference; InvalidParameters if the input is
-- absent
abbrev pub take_first_input : List ℕ → FieldResult Reference
take_first_input body =
    and_then (take_reference body)
    (λ cell rest. allowed_or_fault InvalidParameters
    (if is_nothing cell then None else Some cell) rest)

-- reads the second input and the outputs from the front of a body: in2, out1, out2
abbrev pub take_operands : Parameters
    → List ℕ
    → FieldResult (Option Reference × Option Reference × Option Reference)
take_operands p body =
    and_then (take_operand (second_input p) body)
    (λ in2 rest. and_then (take_operand (first_output p) rest) (λ out1 rest.
    and_then (take_operand (second_output p out1) rest)
    (λ out2 rest. Ok ((in2, out1, out2), rest))))
