use Rattle.std.proofs.Common.{◌≡◌, ◌<◌, ◌^◌, ◌∙◌, ap, arith}
use Rattle.graph_steps.proofs.Common.{get_or_default, no_extremes, plane, plane_image, tally_at}
use Rattle.graph_steps.specs.declared.tally.Tally.TheVariants as tally
use Rattle.graph_steps.proofs.StepLaws.{plane_read}
use Rattle.graph_steps.proofs.TallyLaws.{can_add}
use Rattle.graph_steps.proofs.bands.reduce.Goals as goal

pub add-requires-clause-can : goal.add-requires-clause-can
add-requires-clause-can c =
    let r = c.args.reduction.now in
    let planes = c.args.planes.now in
    let can = c.requires.can in
    let fits = c.requires.fits in
    let low : c.args.band.start < 2 ^ 16 = omega arith in
    let image : c.image.result ≡ plane_image (plane planes r.input) =
    c.image.ensures
    ∙ ap plane_image
    (plane_read planes r.input c.index-planes-reduction.result c.requires.input
    c.index-planes-reduction.is)
    in
    let same =
    get_or_default c.args.tallies.now r.tally (tally.Extremes no_extremes)
    c.index-tallies-reduction.result can.tally in
    rw (image, ← same)
    (can_add c.args.band.start c.with_halo-rows.result (plane_image (plane planes r.input))
    (tally_at c.args.tallies.now r.tally) low c.requires.reads.image can.format can.bounded)
