use Rattle.graph_verify.proofs.OrderLemmas.{no_cycle_from_order}
use Rattle.graph_verify.proofs.laws.cycles.orders.Goals as goal

pub returns : goal.returns
returns g c = no_cycle_from_order
