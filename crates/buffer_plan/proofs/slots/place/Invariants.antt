use Rattle.buffer_plan.proofs.PlacingLemmas.{IsPlacing}
use Rattle.buffer_plan.proofs.slots.place.Given as goal

abbrev pub invariant-loop-life : goal.invariant-loop-life
invariant-loop-life l = IsPlacing l.lives l.life-index l.ends.items l.placed.items l.peak_step
