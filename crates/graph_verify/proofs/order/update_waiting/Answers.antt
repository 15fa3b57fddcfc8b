use Rattle.std.proofs.Common.{arith, set, ap, sym, ◌∙◌}
use Rattle.graph_verify.proofs.Common.{once_ordered}
use Rattle.std.proofs.lemmas.List.Edits.{map_over_more}
use Rattle.graph_verify.proofs.order.update_waiting.Goals as goal

pub loop-waiting-preserved : goal.loop-waiting-preserved
loop-waiting-preserved c =
    ap (set c.loop-waiting.rest c.loop-waiting.waiting-index)
    (c.once_ordered.ensures ∙ ap (once_ordered c.args.ordered.now) (sym c.waiting-item.is))
    ∙ map_over_more (once_ordered c.args.ordered.now) c.args.rest.now c.loop-waiting.rest
    c.loop-waiting.waiting-index c.waiting-item.result (omega arith) c.loop-waiting.invariant
    c.waiting-item.is
