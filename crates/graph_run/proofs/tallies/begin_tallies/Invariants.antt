use Rattle.std.proofs.Common.{◌≡◌, ◌++◌, drop}
use Rattle.graph_run.specs.Program.{tallies_of}
use Rattle.graph_run.proofs.tallies.begin_tallies.Given as goal

abbrev pub invariant-loop-at : goal.invariant-loop-at
invariant-loop-at l =
    l.tallies.items ++ tallies_of l.table.objects (drop l.at l.steps)
    ≡ tallies_of l.table.objects l.steps
