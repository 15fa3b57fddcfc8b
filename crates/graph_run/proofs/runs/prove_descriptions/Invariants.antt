use Rattle.std.proofs.Common.{take, All}
use Rattle.graph_run.proofs.Common.{IsDescription}
use Rattle.graph_run.proofs.runs.prove_descriptions.Given as goal

abbrev pub invariant-loop-image : goal.invariant-loop-image
invariant-loop-image l = All (λ o. IsDescription o.desc) (take l.image-index l.image-items)
