use Rattle.std.proofs.Common.{ℤ, List, length, inr, ap, ◌∙◌, arith}
use Rattle.vx_base.specs.Image.{zero_outside}
use Rattle.vx_base.specs.Picture.{values}
use Rattle.vx_base.proofs.TableLaws.{length-band}
use Rattle.image_core.specs.Rows.{sample_from}
use Rattle.object_table.proofs.stored.Stored.set_valid.Goals as goal

pub put-requires-clause-size : goal.put-requires-clause-size
put-requires-clause-size c =
    let width = c.width-width.result in
    let rows = c.whole-rows.result in
    let size =
    ap (λ (samples : List ℤ). length samples) c.clear_outside.ensures.value
    ∙ length-band width rows.start rows.count
    (zero_outside c.args.valid (sample_from width rows.start (values c.lift-samples.result))) in
    inr (grind (arith, size))
