use Rattle.std.proofs.Common.{length}
use Rattle.graph_verify.proofs.WaitingLemmas.{IsOrdering}
use Rattle.graph_verify.proofs.order.put_in_order.Given as goal

abbrev pub invariant-ordering : goal.invariant-ordering
invariant-ordering l = IsOrdering l.nodes l.steps.items l.rest.items

abbrev pub decreases-ordering : goal.decreases-ordering
decreases-ordering l = length l.rest.items
