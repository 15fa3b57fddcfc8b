use Rattle.std.proofs.Common.{◌*◌, ◌≤◌, length, map, take}
use Rattle.graph_verify.proofs.Common.{flat_map, Reference, outputs, Operand, linked_nodes, AreOperands}
use Rattle.graph_verify.specs.Members.{IsSublist}
use Rattle.graph_verify.proofs.KnownLemmas.{AreLearnt}
use Rattle.graph_verify.proofs.known.known_after.Given as goal

abbrev pub invariant-loop-linked : goal.invariant-loop-linked
invariant-loop-linked l = record {
  resolved : (is : Reference → Operand)
      → AreOperands is l.steps
      → AreLearnt is (linked_nodes l.steps) (linked_nodes (take l.linked-index l.steps))
      l.known.items;
  cells :
      IsSublist (map (λ k. k.cell) l.known.items)
      (flat_map outputs (linked_nodes (take l.linked-index l.steps)));
  limit : length l.known.items ≤ 2 * l.linked-index;
}
