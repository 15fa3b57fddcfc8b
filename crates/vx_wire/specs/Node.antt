-- The nine fields of a node: function, border mode, constant, policy, amount, in1, in2, out1, out2.
use Rattle.std.specs.Prelude.{ℕ, ◌==◌, ◌&&◌, if◌then◌else◌, nat_le, List, [], ◌∷◌, ◌++◌, Option, Some, None, Ok}
use Rattle.std.specs.List.{find}
use Rattle.vx_base.specs.declared.border.Border.{Border}
use Rattle.vx_base.specs.declared.border.Border.TheVariants.{Undefined, Constant, Replicate}
use Rattle.vx_base.specs.declared.policy.Policy.{Policy}
use Rattle.vx_base.specs.declared.policy.Policy.TheVariants.{Wrap, Saturate}
use Rattle.vx_base.specs.declared.function.Function.{Function}
use Rattle.vx_base.specs.declared.function.Parameters.{Parameters}
use Rattle.vx_base.specs.declared.node.Node.{Node}
use Rattle.vx_base.specs.Function.{function_number, function_numbered, parameters}
use Rattle.vx_wire.specs.declared.body_fault.BodyFault.TheVariants.{InvalidParameters, InvalidValue}
use Rattle.vx_wire.specs.Numbered.{with_number}
use Rattle.vx_wire.specs.Fields.{FieldResult, and_then, allowed_or_fault, take_byte}
use Rattle.vx_wire.specs.Reference.{reference_bytes}
use Rattle.vx_wire.specs.Operand.{operand_bytes, take_first_input, take_operands}

-- reads a function from the front of a body: a byte, the function's number
abbrev pub take_function : List ℕ → FieldResult Function
take_function body =
    and_then (take_byte body)
    (λ n rest. allowed_or_fault InvalidParameters (function_numbered n) rest)

-- ---- the border: its mode, and the constant, which is 0 unless the mode is CONSTANT

-- the number of a border's mode: 0 UNDEFINED, 1 CONSTANT, 2 REPLICATE. OpenVX 1.3, `vx_border_e`
abbrev pub border_mode : Border → ℕ
border_mode Undefined = 0
border_mode (Constant value) = 1
border_mode Replicate = 2

-- a border's constant; 0 unless the mode is CONSTANT
abbrev pub border_constant : Border → ℕ
border_constant Undefined = 0
border_constant (Constant value) = value
border_constant Replicate = 0

-- the bytes of a border: the mode, then the constant
abbrev pub border_bytes : Border → List ℕ
border_bytes border = border_mode border ∷ border_constant border ∷ []

-- the border with this mode and this constant
abbrev pub border_with : ℕ → ℕ → Option Border
border_with mode constant =
    find (λ b. (mode == border_mode b) && (constant == border_constant b))
    (Undefined ∷ Constant constant ∷ Replicate ∷ [])

-- reads a border from the front of a body: the mode, then the constant
abbrev pub take_border : List ℕ → FieldResult Border
take_border body =
    and_then (take_byte body) (λ mode rest. and_then (take_byte rest) (λ constant rest.
    allowed_or_fault InvalidParameters (border_with mode constant) rest))

-- ---- the policy and the amount; each is 0 if the function doesn't have it

-- the number of an overflow policy: 0 WRAP, 1 SATURATE. OpenVX 1.3, `vx_convert_policy_e`
abbrev pub policy_number : Policy → ℕ
policy_number Wrap = 0
policy_number Saturate = 1

-- the policies that a node may have, given the parameters of its function
abbrev pub policies : Parameters → List Policy
policies p = if p.policy then Wrap ∷ Saturate ∷ [] else Wrap ∷ []

-- reads a node's policy from the front of a body: a byte, 0 if the function has no policy
abbrev pub take_policy : Parameters → List ℕ → FieldResult Policy
take_policy p body =
    and_then (take_byte body)
    (λ n rest. allowed_or_fault InvalidParameters (with_number policy_number (policies p) n) rest)

-- An amount and the bytes after it, if the amount is allowed; else the amount's fault. Amounts up
-- to the function's greatest amount are allowed, or only 0 if the function has no amount.
abbrev pub amount_allowed : Option ℕ → ℕ → List ℕ → FieldResult ℕ
amount_allowed None n rest =
    allowed_or_fault InvalidParameters (if n == 0 then Some n else None) rest
amount_allowed (Some greatest) n rest =
    allowed_or_fault InvalidValue (if nat_le n greatest then Some n else None) rest

-- reads a node's amount from the front of a body: a byte, 0 if the function has no amount
abbrev pub take_amount : Parameters → List ℕ → FieldResult ℕ
take_amount p body = and_then (take_byte body) (λ n rest. amount_allowed p.greatest_amount n rest)

-- ---- the node

-- reads a node from the front of a body: function, border, policy, amount, in1, in2, out1, out2
abbrev pub take_node : List ℕ → FieldResult Node
take_node body =
    and_then (take_function body) (λ function rest. and_then (take_border rest) (λ border rest.
    and_then (take_policy (parameters function) rest)
    (λ policy rest. and_then (take_amount (parameters function) rest) (λ amount rest.
    and_then (take_first_input rest)
    (λ in1 rest. and_then (take_operands (parameters function) rest) (λ others rest.
    Ok (
      record {
        function = function;
        border = border;
        policy = policy;
        amount = amount;
        in1 = in1;
        in2 = others.0;
        out1 = others.1;
        out2 = others.2;
      },
      rest,
    )))))))

-- the bytes of a node: function, border, policy, amount, in1, in2, out1, out2
abbrev pub node_bytes : Node → List ℕ
node_bytes n =
    function_number n.function ∷ (border_bytes n.border ++ policy_number n.policy ∷ n.amount
    ∷
    (reference_bytes n.in1
    ++ (operand_bytes n.in2 ++ (operand_bytes n.out1 ++ operand_bytes n.out2))))
