-- Nodes that are still to be ordered.
use Rattle.std.specs.Prelude.{Bool, not, ◌&&◌, List}
use Rattle.std.specs.List.{list_any}
use Rattle.vx_base.specs.declared.node.Node.{Node}
use Rattle.vx_base.specs.Node.{optional_cells}
use Rattle.graph_verify.specs.declared.linked.Linked.{Linked}
use Rattle.graph_verify.specs.Links.{writes, is_written}

-- a node that isn't ordered yet, and whether it waits for its first and for its second input. The
-- node waits for each of its inputs that an unordered node writes.
pub record WaitingNode : Type 0 where
  pub linked : Linked
  pub for_in1 : Bool
  pub for_in2 : Bool

-- an unordered node, with the inputs for which it waits; `nodes` are all unordered nodes
abbrev pub waiting_among : List Node → Linked → WaitingNode
waiting_among nodes l =
    record {
      linked = l;
      for_in1 = is_written nodes l.node.in1;
      for_in2 = list_any (is_written nodes) (optional_cells l.node.in2);
    }

-- an unordered node, updated after another node is ordered: it no longer waits for inputs that the
-- ordered node writes
abbrev pub once_ordered : Node → WaitingNode → WaitingNode
once_ordered ordered w =
    record {
      linked = w.linked;
      for_in1 = w.for_in1 && not (writes ordered w.linked.node.in1);
      for_in2 = w.for_in2 && not (list_any (writes ordered) (optional_cells w.linked.node.in2));
    }
