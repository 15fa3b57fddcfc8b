use Rattle.std.proofs.Common.{◌≡◌, drop}
use Rattle.graph_run.proofs.Common.{Context, with_objects, with_written}
use Rattle.graph_run.specs.Bound.{AreTalliesFor}
use Rattle.graph_run.specs.Results.{tally_objects}
use Rattle.graph_run.proofs.tallies.set_tallies.Given as goal

abbrev pub invariant-loop-at : goal.invariant-loop-at
invariant-loop-at l =
    let t : Context = l.table in
    let start : Context = l.fn.table in
    record {
      fit : AreTalliesFor t.objects (drop l.at l.cells) (drop l.at l.tallies);
      next : t ≡ with_objects start t.objects;
      written :
          with_written t.objects (tally_objects (drop l.at l.cells) (drop l.at l.tallies))
          ≡ with_written start.objects (tally_objects l.cells l.tallies);
    }
