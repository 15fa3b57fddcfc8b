use Rattle.std.proofs.Common.{◌<◌, ◌∙◌, sym, ap, arith, length, position, not, ◌||◌}
use Rattle.std.proofs.lemmas.Grind.{common_steps}
use Rattle.graph_verify.proofs.WaitingLemmas.{none_ordered, one_more_ordered, all_wait, all_ordered, no_cycle_when_ordered}
use Rattle.graph_verify.proofs.order.put_in_order.Goals as goal

pub ordering-init : goal.ordering-init
ordering-init c =
    rw c.new-steps.ensures.items
    (none_ordered c.args.nodes.now c.in_ok-rest.rest.items c.in_ok-rest.ensures)

pub returns-in_default-clause-cycle : goal.returns-in_default-clause-cycle
returns-in_default-clause-cycle c =
    let more : 0 < length c.ordering.rest.items = grind (arith, common_steps) in
    let none =
    c.in_default.ensures
    ∙ ap (position (λ w. not (w.for_in1 || w.for_in2))) c.deref.ensures.value in
    sym
    (all_wait c.args.nodes.now c.ordering.steps.items c.ordering.rest.items c.ordering.invariant
    more none)

pub ordering-smaller : goal.ordering-smaller
ordering-smaller c = omega (arith, c.take_ready-ordered.ensures.fewer)

pub ordering-preserved : goal.ordering-preserved
ordering-preserved c =
    let found =
    c.in-Some.ensures ∙ ap (position (λ w. not (w.for_in1 || w.for_in2))) c.deref.ensures.value in
    one_more_ordered c.args.nodes.now c.ordering.steps.items c.push.new.self.items
    c.ordering.rest.items c.take_ready-ordered.new.rest.items c.in-Some.index
    c.take_ready-ordered.result
    c.requires c.ordering.invariant found c.take_ready-ordered.ensures.ordered
    c.in_ok-push.ensures.items c.take_ready-ordered.ensures.rest

pub returns-clause-order : goal.returns-clause-order
returns-clause-order c =
    all_ordered c.args.nodes.now c.ordering.steps.items c.ordering.rest.items
    c.ordering.invariant (grind (arith, common_steps))

pub returns-clause-cycle : goal.returns-clause-cycle
returns-clause-cycle c =
    sym
    (no_cycle_when_ordered c.args.nodes.now c.ordering.steps.items
    (all_ordered c.args.nodes.now c.ordering.steps.items c.ordering.rest.items
    c.ordering.invariant (grind (arith, common_steps))))
