use Rattle.std.proofs.Common.{◌≡◌, length, drop}
use Rattle.graph_run.proofs.Common.{Context, with_objects, with_written}
use Rattle.graph_run.specs.Bind.{plane_objects}
use Rattle.graph_run.proofs.BindLemmas.{CanPut}
use Rattle.graph_run.proofs.bind.put_back.Given as goal

abbrev pub invariant-loop-at : goal.invariant-loop-at
invariant-loop-at l =
    let t : Context = l.table in
    let start : Context = l.fn.table in
    record {
      can : CanPut t.objects (drop l.at l.cells) (drop l.at l.planes);
      count : length l.planes ≡ length l.fn.planes;
      next : t ≡ with_objects start t.objects;
      written :
          with_written t.objects (plane_objects (drop l.at l.cells) (drop l.at l.planes))
          ≡ with_written start.objects (plane_objects l.cells l.fn.planes);
    }
