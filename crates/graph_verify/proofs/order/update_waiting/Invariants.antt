use Rattle.std.proofs.Common.{◌≡◌, ◌++◌, map, take, drop}
use Rattle.graph_verify.proofs.Common.{once_ordered}
use Rattle.graph_verify.proofs.order.update_waiting.Given as goal

abbrev pub invariant-loop-waiting : goal.invariant-loop-waiting
invariant-loop-waiting l =
    l.rest
    ≡ map (once_ordered l.ordered) (take l.waiting-index l.initial.rest)
    ++ drop l.waiting-index l.initial.rest
