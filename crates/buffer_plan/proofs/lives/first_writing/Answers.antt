use Rattle.std.proofs.Common.{ap, ◌+◌}
use Rattle.buffer_plan.proofs.Common.{Node, writes}
use Rattle.buffer_plan.proofs.LiveLemmas.{position_found, position_missing}
use Rattle.buffer_plan.proofs.lives.first_writing.Goals as goal

pub returns-in-Some : goal.returns-in-Some
returns-in-Some c =
    ap (λ k. k + 1)
    (position_found (λ (n : Node). writes n c.args.cell) c.args.steps.now c.in-Some.before
    c.in-Some.ensures)

pub returns-in-None : goal.returns-in-None
returns-in-None c =
    ap (λ k. k + 1)
    (position_missing (λ (n : Node). writes n c.args.cell) c.args.steps.now c.in-None.ensures)
