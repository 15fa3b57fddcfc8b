-- Nodes together with their operands.
use Rattle.std.specs.Prelude.{◌≡◌, Bool, false, not, ◌&&◌, ◌||◌, List, map, All, Option, Some, None}
use Rattle.vx_base.specs.declared.node.Node.{Node}
use Rattle.vx_base.specs.Reference.{Reference}
use Rattle.vx_base.specs.Function.{accumulates}
use Rattle.graph_verify.specs.declared.linked.Linked.{Linked}
use Rattle.graph_verify.specs.declared.operand.Operand.{Operand}
use Rattle.graph_verify.specs.Links.{is_written}
use Rattle.graph_verify.specs.Operand.{operands_of, is_virtual}

-- the nodes without their operands
abbrev pub linked_nodes : List Linked → List Node
linked_nodes nodes = map (λ l. l.node) nodes

-- each node comes with the operands that its references denote
abbrev pub AreOperands : (Reference → Operand) → List Linked → Type 0
AreOperands is nodes = All (λ l. l.operands ≡ operands_of is l.node) nodes

-- whether an operand is a virtual image that none of the nodes writes
abbrev pub lacks_writer : List Node → Reference → Operand → Bool
lacks_writer nodes cell operand = is_virtual operand && not (is_written nodes cell)

-- whether an operand is a virtual image that none of the nodes writes; false if no operand is given
abbrev pub given_unwritten : List Node → Option Reference → Option Operand → Bool
given_unwritten nodes (Some cell) (Some operand) = lacks_writer nodes cell operand
given_unwritten nodes cell operand = false

-- whether a node reads a virtual image that none of the nodes writes
abbrev pub reads_unwritten_virtual : List Node → Linked → Bool
reads_unwritten_virtual nodes l =
    lacks_writer nodes l.node.in1 l.operands.in1 || given_unwritten nodes l.node.in2 l.operands.in2

-- whether an operand is a virtual image; false if no operand is given
abbrev pub is_given_virtual : Option Operand → Bool
is_given_virtual None = false
is_given_virtual (Some operand) = is_virtual operand

-- whether a node accumulates into a virtual image
abbrev pub has_virtual_sum : Linked → Bool
has_virtual_sum l =
    accumulates l.node.function &&
    (is_given_virtual l.operands.out1 || is_given_virtual l.operands.out2)
