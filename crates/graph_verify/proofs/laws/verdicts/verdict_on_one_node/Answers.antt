use Rattle.graph_verify.proofs.SingleLemmas.{verdict_on_one}
use Rattle.graph_verify.proofs.laws.verdicts.verdict_on_one_node.Goals as goal

pub returns : goal.returns
returns c = verdict_on_one
