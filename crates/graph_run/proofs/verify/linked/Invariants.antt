use Rattle.std.proofs.Common.{◌≡◌, ℕ, map, take}
use Rattle.graph_run.proofs.Common.{Node, linked_nodes, AreOperands, operand_held}
use Rattle.graph_run.proofs.verify.linked.Given as goal

abbrev pub invariant-loop-numbered : goal.invariant-loop-numbered
invariant-loop-numbered l = record {
  nodes : linked_nodes l.linked.items ≡ map (λ n. n.node) (take l.numbered-index l.nodes);
  numbers :
      map {B = ℕ × Node} (λ k. (k.number, k.node)) l.linked.items
      ≡ map (λ n. (n.number, n.node)) (take l.numbered-index l.nodes);
  operands : AreOperands (operand_held l.table.objects) l.linked.items;
}
