use Rattle.std.proofs.Common.{◌≡◌, drop, All}
use Rattle.graph_verify.proofs.Common.{Reference, Operand, known_operands, linked_nodes, operands_of, first_fault}
use Rattle.graph_verify.proofs.verified.first_fault.Given as goal

abbrev pub invariant-loop-linked : goal.invariant-loop-linked
invariant-loop-linked l =
    (is : Reference → Operand)
    → All (λ k. known_operands l.known k ≡ operands_of is k.node) l.nodes
    → first_fault is (linked_nodes (drop l.linked-index l.nodes))
    ≡ first_fault is (linked_nodes l.nodes)
