-- Nodes, and the references to the operands that they read and write.
use Rattle.std.specs.Prelude.{ℕ, ◌<◌, ◌^◌, Bool, true, false, not, ◌&&◌, ◌||◌, ◌==◌, nat_le, IsTrue, ⊤, if◌then◌else◌, List, [], ◌∷◌, ◌++◌, Option, Some, None, IfSome, is_some, is_none, unwrap_or}
use Rattle.vx_base.specs.declared.border.Border.{Border}
use Rattle.vx_base.specs.declared.border.Border.TheVariants.{Undefined, Constant, Replicate}
use Rattle.vx_base.specs.declared.kind.Kind.{Kind}
use Rattle.vx_base.specs.declared.kind.Kind.TheVariants as kind
use Rattle.vx_base.specs.declared.policy.Policy.{Policy}
use Rattle.vx_base.specs.declared.policy.Policy.TheVariants.{Wrap, Saturate}
use Rattle.vx_base.specs.declared.function.Parameters.{Parameters}
use Rattle.vx_base.specs.declared.node.Node.{Node}
use Rattle.vx_base.specs.Function.{parameters}
use Rattle.vx_base.specs.Reference.{Reference, IsReference}

-- whether a reference is name 0 without a slot; no operand may be this reference
abbrev pub is_nothing : Reference → Bool
is_nothing cell = (cell.name == 0) && is_none cell.slot

-- whether an operand is absent, has a slot, or has a name other than 0
abbrev pub is_named : Option Reference → Bool
is_named None = true
is_named (Some cell) = not (is_nothing cell)

-- whether no given operand is name 0 without a slot
abbrev pub all_named : Node → Bool
all_named n = not (is_nothing n.in1) && (is_named n.in2 && (is_named n.out1 && is_named n.out2))

-- whether the policy is Wrap
abbrev pub is_wrap : Policy → Bool
is_wrap Wrap = true
is_wrap Saturate = false

-- whether the policy and the amount suit the function. If the function takes no policy, the policy
-- must be Wrap. If the function takes no amount, the amount must be 0. Otherwise the amount must be
-- at most the function's greatest amount.
abbrev pub has_amount : Parameters → Policy → ℕ → Bool
has_amount p policy amount =
    (p.policy || is_wrap policy) && nat_le amount (unwrap_or p.greatest_amount 0)

-- whether the operands suit the function. A second input must be given exactly if the function
-- takes one. If the function has two outputs, one or both must be given. Otherwise the first output
-- must be given, and the second must not.
abbrev pub has_operands : Parameters → Node → Bool
has_operands p n =
    (if is_some p.second_input then is_some n.in2 else is_none n.in2)
    &&
    (if p.output_pair then (is_some n.out1 || is_some n.out2) else
    (is_some n.out1 && is_none n.out2))

-- whether a node's fields suit its function
abbrev pub is_node : Node → Bool
is_node n =
    has_amount (parameters n.function) n.policy n.amount &&
    (has_operands (parameters n.function) n && all_named n)

-- the node with these fields, if they suit its function
abbrev pub node_spec : Node → Option Node
node_spec n = if is_node n then Some n else None

-- ---- a node's operands

-- a reference as a list; empty if the reference is not given
abbrev pub optional_cells : Option Reference → List Reference
optional_cells None = []
optional_cells (Some cell) = cell ∷ []

-- a node's input references
abbrev pub inputs : Node → List Reference
inputs n = n.in1 ∷ optional_cells n.in2

-- a node's output references
abbrev pub outputs : Node → List Reference
outputs n = optional_cells n.out1 ++ optional_cells n.out2

-- the kind of a node's second input; if the node's function has no second input, the result is
-- Image and is not used
abbrev pub second_kind : Node → Kind
second_kind n = unwrap_or (parameters n.function).second_input kind.Image

-- a reference and this kind, as a list of one pair; empty if the reference is not given
abbrev pub with_kind : Kind → Option Reference → List (Reference × Kind)
with_kind k None = []
with_kind k (Some cell) = (cell, k) ∷ []

-- a node's operands, each with the kind of object that the node's function expects there
abbrev pub operands : Node → List (Reference × Kind)
operands n =
    (n.in1, kind.Image) ∷ (with_kind (second_kind n) n.in2
    ++
    (with_kind (parameters n.function).output n.out1
    ++ with_kind (parameters n.function).output n.out2))

-- a border whose constant, if it has one, is a U8 sample
abbrev pub IsBorder : Border → Type 0
IsBorder Undefined = ⊤
IsBorder (Constant value) = value < 2 ^ 8
IsBorder Replicate = ⊤

-- a node whose fields suit its function, with numbers in their permitted ranges
pub record IsNode (n : Node) : Type 0 where
  pub shape : IsTrue (is_node n)
  pub border : IsBorder n.border
  pub amount : n.amount < 2 ^ 8
  pub in1 : IsReference n.in1
  pub in2 : IfSome n.in2 IsReference
  pub out1 : IfSome n.out1 IsReference
  pub out2 : IfSome n.out2 IsReference
