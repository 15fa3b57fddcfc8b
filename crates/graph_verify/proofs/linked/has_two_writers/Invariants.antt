use Rattle.std.proofs.Common.{◌≡◌, length}
use Rattle.graph_verify.proofs.Common.{linked_nodes, two_writers}
use Rattle.graph_verify.proofs.linked.has_two_writers.Given as goal

abbrev pub invariant-loop-linked : goal.invariant-loop-linked
invariant-loop-linked l = two_writers (linked_nodes l.rest) ≡ two_writers (linked_nodes l.nodes)

abbrev pub decreases-loop-linked : goal.decreases-loop-linked
decreases-loop-linked l = length l.rest
