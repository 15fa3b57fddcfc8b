use Rattle.graph_verify.proofs.SolutionLemmas.{once_through_order}
use Rattle.graph_verify.proofs.laws.rounds.once_through_an_order.Goals as goal

pub returns : goal.returns
returns g c = once_through_order
