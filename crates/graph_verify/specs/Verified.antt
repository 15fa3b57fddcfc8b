-- Verified graphs. OpenVX 1.3, "Graphs", vxVerifyGraph.
use Rattle.std.specs.Prelude.{◌≡◌, ℕ, false, ◌&&◌, if◌then◌else◌, ⊤, Option, None, Some, List, length, map, All}
use Rattle.std.specs.List.{zip}
use Rattle.std.specs.List.Sorted.{IsPermutation}
use Rattle.vx_base.specs.declared.node.Node.{Node}
use Rattle.vx_base.specs.Reference.{Reference}
use Rattle.vx_base.specs.Description.{Description}
use Rattle.graph_verify.specs.declared.known.VirtualOutput.{VirtualOutput}
use Rattle.graph_verify.specs.declared.linked.Linked.{Linked}
use Rattle.graph_verify.specs.declared.operand.Operand.{Operand}
use Rattle.graph_verify.specs.declared.operand.Operand.TheVariants.{Image}
use Rattle.graph_verify.specs.declared.verdict.Verdict.{Verdict}
use Rattle.graph_verify.specs.declared.verified.VerifyFault.{VerifyFault}
use Rattle.graph_verify.specs.declared.verified.VerifyFault.TheVariants.{NoMemory, Refused}
use Rattle.graph_verify.specs.Linked.{linked_nodes, AreOperands}
use Rattle.graph_verify.specs.Links.{feeds, is_written}
use Rattle.graph_verify.specs.Operand.{is_virtual, operand_description}
use Rattle.graph_verify.specs.Order.{IsOrder}
use Rattle.graph_verify.specs.PartialDescriptions.{resolved_operand}
use Rattle.graph_verify.specs.Verdict.{two_writers, verdict, virtual_outputs}

-- a verified graph: its nodes, each after all nodes that feed it; the virtual images that they
-- write, in the order of writing; the numbers of the nodes, in the order of `steps`
pub record VerifiedValue : Type 0 where
  pub steps : List Node
  pub virtual_outputs : List VirtualOutput
  pub order : List ℕ

-- `v` has the nodes in an order in which they can run, and each virtual image that the nodes write,
-- with its resolved description
pub record IsVerified (is : Reference → Operand) (nodes : List Node) (v : VerifiedValue) : Type
    0 where
  pub order : IsOrder feeds nodes v.steps
  pub cells : map (λ o. o.cell) v.virtual_outputs ≡ virtual_outputs is v.steps
  pub descriptions : All (λ o. resolved_operand is nodes o.cell ≡ Image o.desc) v.virtual_outputs

-- `v` is the verification of the graph of these nodes
abbrev pub VerifiesNodes : List Linked → VerifiedValue → Type 0
VerifiesNodes nodes v =
    (is : Reference → Operand) → AreOperands is nodes → IsVerified is (linked_nodes nodes) v

-- `v` has these nodes in some order, and their numbers in the same order
abbrev pub ReordersNodes : List Linked → VerifiedValue → Type 0
ReordersNodes nodes v = IsPermutation (map (λ l. (l.number, l.node)) nodes) (zip v.order v.steps)

-- the graph of these nodes can run, with a limit of `work` bytes for its virtual images
abbrev pub CanRunWithin : ℕ → List Linked → Type 0
CanRunWithin work nodes =
    (is : Reference → Operand) → AreOperands is nodes → verdict work is (linked_nodes nodes) ≡ None

-- if the graph was refused, P holds for the verdict; if memory ran out, nothing is stated
abbrev pub IfRefused : VerifyFault → (Verdict → Type 0) → Type 0
IfRefused NoMemory P = ⊤
IfRefused (Refused v) P = P v

-- if the graph of these nodes was refused, the fault carries the verdict on this graph
abbrev pub RefusesNodes : ℕ → List Linked → VerifyFault → Type 0
RefusesNodes work nodes fault =
    (is : Reference → Operand)
    → AreOperands is nodes
    → IfRefused fault (λ v. verdict work is (linked_nodes nodes) ≡ Some v)

-- `v` is the verification of some graph with some operands; no object has two writers, and each
-- step has a number
pub record IsVerifiedGraph (v : VerifiedValue) : Type 0 where
  pub is : Reference → Operand
  pub nodes : List Node
  pub verified : IsVerified is nodes v
  pub one_writer : two_writers nodes ≡ false
  pub numbers : length v.order ≡ length v.steps

-- the resolved description of a virtual image that the nodes write; None if a part of the
-- description is still open, and for any other object
abbrev pub written_description : (Reference → Operand) → List Node → Reference → Option Description
written_description is nodes cell =
    if is_virtual (is cell) && is_written nodes cell then operand_description
    (resolved_operand is nodes cell) else None
