use Rattle.std.proofs.Common.{rules}
use Rattle.graph_run.proofs.BlockLemmas.{capacities_counted}
use Rattle.graph_run.proofs.blocks.capacities_of.Goals as goal

pub add_capacities-requires-2 : goal.add_capacities-requires-2
add_capacities-requires-2 c = search (rules, capacities_counted)

pub add_capacities-requires-3 : goal.add_capacities-requires-3
add_capacities-requires-3 c = search (rules, capacities_counted)
