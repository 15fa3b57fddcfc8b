use Rattle.std.proofs.Common.{◌≡◌, ◌++◌, drop}
use Rattle.graph_run.specs.Results.{tally_cells}
use Rattle.graph_run.proofs.tallies.tally_cells.Given as goal

abbrev pub invariant-loop-at : goal.invariant-loop-at
invariant-loop-at l = l.cells.items ++ tally_cells (drop l.at l.steps) ≡ tally_cells l.steps
