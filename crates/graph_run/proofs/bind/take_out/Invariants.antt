use Rattle.std.proofs.Common.{◌≡◌, ◌+◌, ◌≤◌, ◌++◌, length, vec_capacity}
use Rattle.graph_run.proofs.Common.{Context, with_objects, with_written}
use Rattle.graph_run.specs.Bind.{bare_images, image_planes}
use Rattle.graph_run.proofs.BindLemmas.{CanTake}
use Rattle.graph_run.proofs.bind.take_out.Given as goal

abbrev pub invariant-loop-cell : goal.invariant-loop-cell
invariant-loop-cell l =
    let t : Context = l.table in
    let start : Context = l.fn.table in
    record {
      can : CanTake t.objects l.rest;
      room : length l.planes.items + length l.rest ≤ vec_capacity l.planes;
      capacity : vec_capacity l.planes ≡ vec_capacity l.fn.planes;
      planes :
          l.planes.items ++ image_planes t.objects l.rest
          ≡ l.fn.planes.items ++ image_planes start.objects l.cells;
      next : t ≡ with_objects start t.objects;
      written :
          with_written t.objects (bare_images t.objects l.rest)
          ≡ with_written start.objects (bare_images start.objects l.cells);
    }

abbrev pub decreases-loop-cell : goal.decreases-loop-cell
decreases-loop-cell l = length l.rest
