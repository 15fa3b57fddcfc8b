use Rattle.std.proofs.Common.{◌≡◌, true, None, length}
use Rattle.graph_steps.specs.declared.step.Step.{Step}
use Rattle.graph_steps.specs.Steps.{reads_output}
use Rattle.graph_steps.specs.Program.{IsStepOf}
use Rattle.graph_run.proofs.sizes.add_once.Given as goal

abbrev pub invariant-loop-task : goal.invariant-loop-task
invariant-loop-task l =
    ((s : Step)
    → IsStepOf s l.rest
    → reads_output s.node.function ≡ true
    → (s.halo ≡ 0) × (s.describes ≡ None))
    → (s : Step)
    → IsStepOf s l.tasks
    → reads_output s.node.function ≡ true
    → (s.halo ≡ 0) × (s.describes ≡ None)

abbrev pub decreases-loop-task : goal.decreases-loop-task
decreases-loop-task l = length l.rest
