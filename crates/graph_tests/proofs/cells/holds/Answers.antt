use Rattle.std.proofs.Common.{◌∙◌, ℕ, length, sym, ap, subst, rules}
use Rattle.vx_base.specs.Description.{sample_count}
use Rattle.vx_base.specs.Image.{description_of}
use Rattle.vx_base.specs.Object.{ObjectValue}
use Rattle.vx_base.specs.Picture.{values}
use Rattle.pixel_pool.specs.Block.{IsAllOrNone}
use Rattle.object_table.specs.Context.{Context}
use Rattle.object_table.specs.Object.{image_value}
use Rattle.object_table.specs.Table.{HoldsImage, image_held}
use Rattle.graph_run.proofs.CellLemmas.{image_after, object_after}
use Rattle.graph_tests.proofs.cells.holds.Goals as goal

pub put-requires-clause-there : goal.put-requires-clause-there
put-requires-clause-there c =
    let q = c.new-cell.result in
    let t = c.args.table.now in
    let there : HoldsImage t.objects q = search rules in
    subst (λ (k : Context). HoldsImage k.objects q) (sym c.take-samples.ensures.left)
    (image_after t.objects q there _)

pub put-requires-clause-format : goal.put-requires-clause-format
put-requires-clause-format c =
    let q = c.new-cell.result in
    let t = c.args.table.now in
    let there : HoldsImage t.objects q = search rules in
    c.take-samples.ensures.format
    ∙ sym
    (ap (λ (k : Context). (image_held k.objects q).format) c.take-samples.ensures.left
    ∙ ap (λ (o : ObjectValue). (image_value o).format) (object_after t.objects q there _))

pub put-requires-clause-size : goal.put-requires-clause-size
put-requires-clause-size c =
    let q = c.new-cell.result in
    let t = c.args.table.now in
    let there : HoldsImage t.objects q = search rules in
    let same =
    ap (λ (k : Context). sample_count (description_of (image_held k.objects q)))
    c.take-samples.ensures.left
    ∙ ap (λ (o : ObjectValue). sample_count (description_of (image_value o)))
    (object_after t.objects q there _) in
    subst (λ (n : ℕ). IsAllOrNone n (length (values c.take-samples.result.1))) (sym same)
    c.take-samples.ensures.size
