use Rattle.std.proofs.Common.{◌∙◌, drop, ap, sym, ltb}
use Rattle.buffer_plan.proofs.Common.{is_node_operand}
use Rattle.buffer_plan.proofs.LiveLemmas.{unused_last, used_last}
use Rattle.buffer_plan.proofs.lives.last_use.Goals as goal

pub returns-then-uses : goal.returns-then-uses
returns-then-uses c j =
    let cases = c.in-Some.ensures.cases in
    c.loop-node.invariant j ∙ ap (λ ns. is_node_operand (drop j ns) c.args.cell) cases.0
    ∙ used_last c.in-Some.before.now c.in-Some.node.now c.args.cell j (sym c.if-uses.ensures)
    ∙ ap (ltb j) cases.1

pub loop-node-preserved : goal.loop-node-preserved
loop-node-preserved c j =
    let cases = c.in-Some.ensures.cases in
    c.loop-node.invariant j ∙ ap (λ ns. is_node_operand (drop j ns) c.args.cell) cases.0
    ∙ unused_last c.in-Some.before.now c.in-Some.node.now c.args.cell j (sym c.if-uses.ensures)
