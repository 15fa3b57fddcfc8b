use Rattle.graph_verify.proofs.NodeVerdictLemmas.{runs_alone}
use Rattle.graph_verify.proofs.VerdictLemmas.{can_run}
use Rattle.graph_verify.proofs.laws.verdicts.each_node_can_run.Goals as goal

pub returns : goal.returns
returns c work is nodes n h member = runs_alone work is nodes n (can_run work is nodes h) member
