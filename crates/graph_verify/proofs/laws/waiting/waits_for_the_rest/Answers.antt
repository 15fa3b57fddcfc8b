use Rattle.graph_verify.proofs.WaitingLemmas.{once_ordered-among}
use Rattle.graph_verify.proofs.laws.waiting.waits_for_the_rest.Goals as goal

pub returns : goal.returns
returns c = once_ordered-among
