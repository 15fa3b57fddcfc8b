use Rattle.std.proofs.Common.{◌≡◌, max, length}
use Rattle.graph_run.specs.Blocks.{samples_for}
use Rattle.graph_run.proofs.blocks.samples_for.Given as goal

abbrev pub invariant-loop-task : goal.invariant-loop-task
invariant-loop-task l =
    max l.most (samples_for l.size l.slot l.rest) ≡ samples_for l.size l.slot l.tasks

abbrev pub decreases-loop-task : goal.decreases-loop-task
decreases-loop-task l = length l.rest
