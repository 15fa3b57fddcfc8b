-- Graphs. OpenVX 1.3, "Object: Graph".
use Rattle.std.specs.Prelude.{ℕ, ◌≢◌, ◌+◌, ◌<◌, ◌≤◌, ◌==◌, Bool, not, ◌&&◌, nat_lt, List, [], ◌∷◌, ◌++◌, length, map, filter, All}
use Rattle.std.specs.List.{AllPairs, list_any}
use Rattle.vx_base.specs.declared.node.Node.{Node}
use Rattle.vx_base.specs.declared.numbered.Numbered.{Numbered}
use Rattle.vx_base.specs.Node.{IsNode}
use Rattle.vx_base.specs.declared.node.TheConstants.{GREATEST_NODES}

-- a graph: the number of its next node, and its numbered nodes, oldest first. `delays` has the
-- names of the delays that age after each run (vxRegisterAutoAging).
pub record GraphValue : Type 0 where
  pub next : ℕ
  pub nodes : List Numbered
  pub delays : List ℕ

-- a graph without nodes; its first node will get number 1
abbrev pub new_graph : GraphValue
new_graph = record { next = 1; nodes = []; delays = [] }

-- the nodes without their numbers
abbrev pub nodes_of : GraphValue → List Node
nodes_of g = map (λ n. n.node) g.nodes

-- whether one more node can be added: an unused number remains, and the graph has fewer nodes than
-- the limit
abbrev pub can_add : GraphValue → Bool
can_add g = nat_lt g.next 4294967296 && nat_lt (length g.nodes) GREATEST_NODES

-- the graph with one more node, which gets the next number
abbrev pub with_node : GraphValue → Node → GraphValue
with_node g n = record g {
  next = g.next + 1;
  nodes = g.nodes ++ record { number = g.next; node = n } ∷ [];
}

-- whether the graph has a node of this number
abbrev pub has_node : GraphValue → ℕ → Bool
has_node g number = list_any (λ n. n.number == number) g.nodes

-- the graph without the node of this number; the number is not used again
abbrev pub without_node : GraphValue → ℕ → GraphValue
without_node g number = record g { nodes = filter (λ n. not (n.number == number)) g.nodes }

-- whether the delay of this name is registered for auto-aging
abbrev pub is_registered : GraphValue → ℕ → Bool
is_registered g name = list_any (λ delay. delay == name) g.delays

-- the graph with these delays, and no others, registered for auto-aging
abbrev pub with_delays : GraphValue → List ℕ → GraphValue
with_delays g names = record g { delays = names }

-- a graph with at most 256 nodes, all well-formed. The node numbers ascend and are below `next`. No
-- delay is registered twice.
pub record IsGraph (g : GraphValue) : Type 0 where
  pub left : g.next ≤ 4294967296
  pub count : length g.nodes ≤ GREATEST_NODES
  pub numbers : AllPairs (λ a b. a.number < b.number) g.nodes
  pub below : All (λ n. n.number < g.next) g.nodes
  pub nodes : All (λ n. IsNode n.node) g.nodes
  pub delays : AllPairs (λ a b. a ≢ b) g.delays
