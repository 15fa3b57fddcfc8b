-- The result of ProcessGraph, defined by the graph alone. OpenVX 1.3, "Graphs", vxProcessGraph.
use Rattle.std.specs.Prelude.{ℕ, ◌≡◌, List, map, Ok}
use Rattle.vx_base.specs.declared.node.Node.{Node}
use Rattle.vx_base.specs.Graph.{GraphValue, nodes_of}
use Rattle.object_table.specs.Ageing.{aged_under}
use Rattle.object_table.specs.Context.{Context}
use Rattle.object_table.specs.NamedObject.{NamedObject}
use Rattle.graph_verify.specs.Links.{feeds}
use Rattle.graph_verify.specs.Order.{IsOrder}
use Rattle.graph_verify.specs.PartialDescriptions.{resolved_operand}
use Rattle.graph_run.specs.Graph.{named_at_start, objects_at_end, one_by_one}
use Rattle.graph_run.specs.Operands.{operand_held}
use Rattle.graph_run.specs.Solution.{Solves}
use Rattle.client_model.specs.Graphs.{graph_named}

-- the objects as a run begins: each virtual image that the nodes write is an image of zeros, with
-- the resolved size and format; other objects are unchanged
abbrev pub at_begin : List Node → List NamedObject → List NamedObject
at_begin nodes objects =
    map (named_at_start (resolved_operand (operand_held objects) nodes) nodes) objects

-- The run of a graph with these nodes. The objects at the end of the run are the graph's only
-- solution. Running the nodes one by one, in any order that puts each node after the nodes whose
-- outputs it reads, gives the same objects. After the run, virtual images have no samples again.
pub record IsTheRun (nodes : List Node) (before later : List NamedObject) : Type 0 where
  pub at_end : List NamedObject
  pub solves : Solves nodes (at_begin nodes before) at_end
  pub only : (other : List NamedObject)
      → Solves nodes (at_begin nodes before) other
      → other ≡ at_end
  pub order : (steps : List Node) × IsOrder feeds nodes steps
  pub in_order : (steps : List Node)
      → IsOrder feeds nodes steps
      → one_by_one steps (at_begin nodes before) ≡ at_end
  pub left : later ≡ objects_at_end before at_end

-- the context after a run of the graph with this name: the objects after the run, with each
-- registered delay aged; the next name is unchanged
pub record IsRunOf (name : ℕ) (c later : Context) : Type 0 where
  pub graph : GraphValue
  pub named : graph_named c.objects name ≡ Ok graph
  pub left : List NamedObject
  pub run : IsTheRun (nodes_of graph) c.objects left
  pub aged : later.objects ≡ aged_under graph.delays left
  pub next : later.next ≡ c.next
