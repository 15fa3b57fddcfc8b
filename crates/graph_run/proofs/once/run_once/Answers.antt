use Rattle.graph_run.proofs.OnceLemmas.{both_last}
use Rattle.graph_run.proofs.once.run_once.Goals as goal

pub returns-clause-lasts : goal.returns-clause-lasts
returns-clause-lasts c =
    both_last c.args.table.now c.args.node.now c.requires.objects c.requires.runs
    c.run_to.new.table c.run_to.ensures c.run_to-2.new.table c.run_to-2.ensures c.requires.names
