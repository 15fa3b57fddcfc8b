use Rattle.std.proofs.Common.{take}
use Rattle.buffer_plan.proofs.Common.{AreLives, of_format}
use Rattle.buffer_plan.proofs.lives.lives_of.Given as goal

abbrev pub invariant-loop-image : goal.invariant-loop-image
invariant-loop-image l =
    AreLives l.steps (of_format l.format (take l.image-index l.images)) l.lives.items
