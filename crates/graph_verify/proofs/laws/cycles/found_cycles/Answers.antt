use Rattle.graph_verify.proofs.CycleLemmas.{has_cycle-iff}
use Rattle.graph_verify.proofs.laws.cycles.found_cycles.Goals as goal

pub returns : goal.returns
returns g c = has_cycle-iff
