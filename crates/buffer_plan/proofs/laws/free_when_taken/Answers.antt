use Rattle.buffer_plan.proofs.TakenLemmas.{free_when_taken}
use Rattle.buffer_plan.proofs.laws.free_when_taken.Goals as goal

pub returns : goal.returns
returns c = free_when_taken
