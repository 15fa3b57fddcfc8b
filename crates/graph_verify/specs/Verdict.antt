-- Verdicts: why a graph can't run. OpenVX 1.3, "Graphs", vxVerifyGraph.
use Rattle.std.specs.Prelude.{ℕ, Bool, false, not, ◌&&◌, ◌||◌, nat_le, sum_by, List, [], ◌∷◌, Option, Some, None, if◌then◌else◌}
use Rattle.std.specs.List.{list_any, list_all, filter, flat_map}
use Rattle.std.specs.Option.{option_and_then, option_or}
use Rattle.vx_base.specs.declared.format.Format.{Format}
use Rattle.vx_base.specs.declared.function.Function.{Function}
use Rattle.vx_base.specs.declared.node.Node.{Node}
use Rattle.vx_base.specs.declared.code.Code.{Code}
use Rattle.vx_base.specs.declared.code.Code.TheVariants as code
use Rattle.vx_base.specs.Reference.{Reference, same_reference}
use Rattle.vx_base.specs.Function.{accumulates}
use Rattle.vx_base.specs.Node.{inputs, outputs}
use Rattle.vx_base.specs.Formats.{takes_formats}
use Rattle.graph_verify.specs.declared.operand.Operand.{Operand}
use Rattle.graph_verify.specs.declared.operand.Operands.{Operands}
use Rattle.graph_verify.specs.declared.verdict.Verdict.{Verdict}
use Rattle.graph_verify.specs.declared.verdict.Verdict.TheVariants.{MultipleWriters, InvalidGraph, InvalidLink, InvalidFormat, InvalidDimension, NoResources}
use Rattle.graph_verify.specs.Operand.{operand_format, are_of_one_size, written_operands, other_operands, operands_of, is_virtual, resolved_bytes}
use Rattle.graph_verify.specs.Links.{feeds, has_twice, is_written}
use Rattle.graph_verify.specs.Cycle.{has_cycle}
use Rattle.graph_verify.specs.PartialDescriptions.{resolved_operand}

-- the status code of a verdict
abbrev pub verdict_code : Verdict → Code
verdict_code MultipleWriters = code.MultipleWriters
verdict_code InvalidGraph = code.InvalidGraph
verdict_code InvalidFormat = code.InvalidFormat
verdict_code InvalidDimension = code.InvalidDimension
verdict_code InvalidLink = code.InvalidLink
verdict_code NoResources = code.NoResources

-- whether both outputs of a node are the same object
abbrev pub writes_twice : Node → Bool
writes_twice n = has_twice (outputs n)

-- whether a node reads an object that it writes: a cycle of one node
abbrev pub reads_own_output : Node → Bool
reads_own_output n = list_any (λ a. list_any (same_reference a) (outputs n)) (inputs n)

-- whether the function takes these input formats together with each output's format; false if the
-- first input has no format
abbrev pub takes_first : Function → Option Format → Option Format → List Operand → Bool
takes_first function None second written = false
takes_first function (Some first) second written =
    list_all (λ out. takes_formats function first second (operand_format out)) written

-- whether the function takes the formats of a node's operands
abbrev pub takes_operands : Function → Operands → Bool
takes_operands function o =
    takes_first function (operand_format o.in1) (option_and_then operand_format o.in2)
    (written_operands o)

-- a node's fault: its function doesn't take the formats, or an image doesn't have the size of the
-- first input
abbrev pub node_fault : Function → Operands → Option Verdict
node_fault function o =
    if not (takes_operands function o) then Some InvalidFormat
    else
    (if list_all (are_of_one_size o.in1) (other_operands o) then None else Some InvalidDimension)

-- the verdict on a node alone; None if the node can run
abbrev pub verdict_on : Node → Operands → Option Verdict
verdict_on n o =
    if writes_twice n then Some MultipleWriters
    else (if reads_own_output n then Some InvalidGraph
    else node_fault n.function o)

-- ---- graphs

-- whether any object is written by two nodes, or as both outputs of one node
abbrev pub two_writers : List Node → Bool
two_writers nodes = has_twice (flat_map outputs nodes)

-- whether an object is a virtual image that no node writes
abbrev pub is_unwritten_image : (Reference → Operand) → List Node → Reference → Bool
is_unwritten_image is nodes cell = is_virtual (is cell) && not (is_written nodes cell)

-- whether a node reads a virtual image that no node writes
abbrev pub reads_unwritten : (Reference → Operand) → List Node → Node → Bool
reads_unwritten is nodes n = list_any (is_unwritten_image is nodes) (inputs n)

-- whether a node accumulates into a virtual image, which has no content when a run begins
abbrev pub adds_to_virtual : (Reference → Operand) → Node → Bool
adds_to_virtual is n = accumulates n.function && list_any (λ cell. is_virtual (is cell)) (outputs n)

-- whether any node accumulates into a virtual image, or reads a virtual image that no node writes
abbrev pub has_unwritten_input : (Reference → Operand) → List Node → Bool
has_unwritten_input is nodes =
    list_any (λ n. reads_unwritten is nodes n || adds_to_virtual is n) nodes

-- the fault of the first node that has a fault; the nodes are in the order in which they were added
abbrev pub first_fault : (Reference → Operand) → List Node → Option Verdict
first_fault is [] = None
first_fault is (n ∷ nodes) =
    option_or (node_fault n.function (operands_of is n)) (first_fault is nodes)

-- the virtual images that the nodes write
abbrev pub virtual_outputs : (Reference → Operand) → List Node → List Reference
virtual_outputs is nodes = filter (λ cell. is_virtual (is cell)) (flat_map outputs nodes)

-- the bytes of the samples of all virtual images that the nodes write
abbrev pub work_bytes : (Reference → Operand) → List Node → ℕ
work_bytes is nodes =
    sum_by (λ cell. resolved_bytes (resolved_operand is nodes cell)) (virtual_outputs is nodes)

-- the verdict on a graph with these operands; its virtual images may take at most `work` bytes.
-- None if the graph can run
abbrev pub verdict : ℕ → (Reference → Operand) → List Node → Option Verdict
verdict work is nodes =
    if two_writers nodes then Some MultipleWriters
    else (if has_cycle feeds nodes then Some InvalidGraph
    else (if has_unwritten_input is nodes then Some InvalidLink
    else option_or (first_fault (resolved_operand is nodes) nodes)
    (if nat_le (work_bytes is nodes) work then None else Some NoResources)))
