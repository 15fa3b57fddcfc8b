-- Requests on graphs. OpenVX 1.3, "Object: Graph", vxCreateGraph, vxVerifyGraph and vxProcessGraph,
-- "Object: Node", vxRemoveNode, and "Object: Image", vxCreateVirtualImage.
use Rattle.std.specs.Prelude.{ℕ, List, ◌∷◌, Option, Some, None, Result, Ok, Err, if◌then◌else◌}
use Rattle.std.specs.Option.{option_map}
use Rattle.vx_base.specs.declared.kind.Kind.TheVariants as kind
use Rattle.vx_base.specs.declared.node.Node.{Node}
use Rattle.vx_base.specs.Graph.{GraphValue, nodes_of, can_add, with_node, has_node, without_node}
use Rattle.vx_base.specs.Node.{operands}
use Rattle.vx_base.specs.Object.{ObjectValue, GraphObject, VirtualObject}
use Rattle.vx_base.specs.PartialDescription.{PartialDescription}
use Rattle.object_table.specs.Ageing.{aged_under}
use Rattle.object_table.specs.NamedObject.{NamedObject}
use Rattle.vx_base.specs.Reference.{reference_to}
use Rattle.object_table.specs.Context.{Context, object_named, with_objects, with_graph}
use Rattle.object_table.specs.Holds.{still_held}
use Rattle.graph_verify.specs.declared.verdict.Verdict.{Verdict}
use Rattle.graph_verify.specs.PartialDescriptions.{resolved_operand}
use Rattle.graph_verify.specs.Verdict.{verdict}
use Rattle.graph_run.specs.Graph.{run_of_graph}
use Rattle.graph_run.specs.Operands.{operand_held}
use Rattle.client_model.specs.declared.refusal.Refusal.{Refusal}
use Rattle.client_model.specs.declared.refusal.Refusal.TheVariants.{InvalidReference, InvalidType, NoResources, Rejected}
use Rattle.client_model.specs.declared.reply.Reply.TheVariants.{Empty}
use Rattle.client_model.specs.declared.reply.Reply.TheVariants as reply
use Rattle.client_model.specs.Limits.{LimitsValue}
use Rattle.client_model.specs.Images.{create}
use Rattle.client_model.specs.Operands.{operands_refusal}
use Rattle.client_model.specs.Refusal.{Outcome, refused_or, reply_unless}

-- an object as a graph, or the refusal
abbrev pub as_graph : Option ObjectValue → Result GraphValue Refusal
as_graph None = Err InvalidReference
as_graph (Some (GraphObject graph)) = Ok graph
as_graph (Some other) = Err InvalidType

-- the graph of a live name, or the refusal
abbrev pub graph_named : List NamedObject → ℕ → Result GraphValue Refusal
graph_named objects name = as_graph (object_named objects name)

-- a new virtual image of this graph, or the refusal
abbrev pub create_virtual_in : Result GraphValue Refusal
    → LimitsValue
    → Context
    → ℕ
    → PartialDescription
    → Outcome
create_virtual_in (Err refusal) limits c name declared = Err refusal
create_virtual_in (Ok graph) limits c name declared =
    create limits c (VirtualObject (record { graph = name; declared = declared }))

-- CreateVirtualImage: a virtual image, which only nodes of this graph may use
abbrev pub create_virtual_image : LimitsValue → Context → ℕ → PartialDescription → Outcome
create_virtual_image limits c name declared =
    create_virtual_in (graph_named c.objects name) limits c name declared

-- the graph with one more node, under the graph's next node number; or the refusal
abbrev pub add_to : Result GraphValue Refusal → Context → ℕ → Node → Outcome
add_to (Err refusal) c name n = Err refusal
add_to (Ok graph) c name n =
    if can_add graph then Ok (
      reply.Node graph.next,
      Some (with_objects c (with_graph c.objects name (with_node graph n))),
    ) else Err NoResources

-- AddNode: the node is appended, under the graph's next node number
abbrev pub add_node : Context → ℕ → Node → Outcome
add_node c name n =
    refused_or
    (operands_refusal (Some name) c.objects ((reference_to name, kind.Graph) ∷ operands n))
    (add_to (graph_named c.objects name) c name n)

-- the graph without the node of this number, and the objects that are still held; or the refusal
abbrev pub remove_from : Result GraphValue Refusal → Context → ℕ → ℕ → Outcome
remove_from (Err refusal) c name number = Err refusal
remove_from (Ok graph) c name number =
    if has_node graph number then Ok (
      Empty,
      Some (with_objects c (still_held (with_graph c.objects name (without_node graph number)))),
    )
    else Err InvalidReference

-- RemoveNode: the node is removed, and objects that are then no longer held are dropped
abbrev pub remove_node : Context → ℕ → ℕ → Outcome
remove_node c name number = remove_from (graph_named c.objects name) c name number

-- the verdict on a graph, given the limit on work bytes; None if the graph can run
abbrev pub graph_verdict : LimitsValue → List NamedObject → GraphValue → Option Verdict
graph_verdict limits objects graph = verdict limits.work (operand_held objects) (nodes_of graph)

-- an empty reply if the verdict on a graph is SUCCESS; otherwise the refusal
abbrev pub verify_found : Result GraphValue Refusal → LimitsValue → Context → Outcome
verify_found (Err refusal) limits c = Err refusal
verify_found (Ok graph) limits c =
    reply_unless (option_map Rejected (graph_verdict limits c.objects graph)) Empty c

-- VerifyGraph: the verdict on the graph; nothing changes
abbrev pub verify_graph : LimitsValue → Context → ℕ → Outcome
verify_graph limits c name = verify_found (graph_named c.objects name) limits c

-- the reply and the context after the graph has run and its registered delays have aged; or the
-- refusal
abbrev pub process_found : Result GraphValue Refusal → LimitsValue → Context → Outcome
process_found (Err refusal) limits c = Err refusal
process_found (Ok graph) limits c =
    let nodes = nodes_of graph in
    reply_unless (option_map Rejected (graph_verdict limits c.objects graph)) Empty
    (with_objects c
    (aged_under graph.delays
    (run_of_graph (resolved_operand (operand_held c.objects) nodes) nodes c.objects)))

-- ProcessGraph: the verdict on the graph; if it is SUCCESS, the graph runs, and then its registered
-- delays age
abbrev pub process_graph : LimitsValue → Context → ℕ → Outcome
process_graph limits c name = process_found (graph_named c.objects name) limits c
