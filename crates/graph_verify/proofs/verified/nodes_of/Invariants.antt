use Rattle.std.proofs.Common.{◌≡◌, take}
use Rattle.graph_verify.proofs.Common.{linked_nodes}
use Rattle.graph_verify.proofs.verified.nodes_of.Given as goal

abbrev pub invariant-loop-linked : goal.invariant-loop-linked
invariant-loop-linked l = l.nodes.items ≡ linked_nodes (take l.linked-index l.linked)
