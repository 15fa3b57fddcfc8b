use Rattle.std.proofs.Common.{◌≡◌, ◌+◌, ◌∷◌, length, drop, get_or, slice_set, ◌<◌, ap, ◌∙◌, arith}
use Rattle.std.proofs.lemmas.List.{drop_more, drop-set-lt, length-set}
use Rattle.graph_run.proofs.Common.{Context, with_written}
use Rattle.graph_run.specs.Bind.{plane_objects}
use Rattle.graph_run.proofs.ListLemmas.{rest_at}
use Rattle.graph_run.proofs.BindLemmas.{CanPut, next_context, for_length, next_can, next_written}
use Rattle.graph_run.proofs.bind.put_back.Goals as goal

pub loop-at-preserved : goal.loop-at-preserved
loop-at-preserved c =
    let t : Context = c.loop-at.table in
    let k = c.loop-at.at in
    let cells = c.args.cells.now in
    let planes = c.loop-at.planes in
    let cell = c.index-cells-at.result in
    let plane = get_or planes k c.index-planes-at.result in
    let after : Context = c.put_image.new.table in
    let inv = c.loop-at.invariant in
    let cell_at : drop k cells ≡ cell ∷ drop (k + 1) cells =
    rest_at cells k cell cell c.loop-at-test.true c.index-cells-at.is in
    let below : k < length planes =
    omega (arith, c.loop-at-test.true, c.loop-at.auto.planes, for_length _ _ _ c.requires.planes) in
    let plane_at : drop k planes ≡ plane ∷ drop (k + 1) planes =
    drop_more planes k c.index-planes-at.result below in
    let can : CanPut t.objects (cell ∷ drop (k + 1) cells) (plane ∷ drop (k + 1) planes) =
    rw (cell_at, plane_at) at inv.can in
    let left : after.objects ≡ _ = ap (λ (x : Context). x.objects) c.put_image.ensures in
    let others = drop (k + 1) cells in
    let later = drop (k + 1) planes in
    let same : drop (k + 1) (slice_set planes k c.put_image.new.plane) ≡ later =
    drop-set-lt (k + 1) planes k c.put_image.new.plane (omega arith) in
    let before : with_written t.objects (plane_objects (cell ∷ others) (plane ∷ later)) ≡ _ =
    rw (cell_at, plane_at) at inv.written in
    record {
      can = next_can t.objects cell others plane later can after.objects left _ same;
      count = length-set planes k c.put_image.new.plane ∙ inv.count;
      next = next_context c.args.table.now t after _ inv.next c.put_image.ensures;
      written =
          next_written t.objects cell others plane later can after.objects left _ same ∙ before;
    }
