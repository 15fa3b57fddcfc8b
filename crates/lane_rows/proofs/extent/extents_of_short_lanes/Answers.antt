use Rattle.std.proofs.Common.{◌≡◌, ◌∙◌, [], map, get_or, ap, sym, subst, w16, FitsSigned, to_z, of_z, map-id}
use Rattle.std.proofs.lemmas.Simd.{Each1-replicate}
use Rattle.lane_rows.proofs.Common.{to_z-of_z, zip2, int_min, int_max}
use Rattle.lane_rows.proofs.ExtentLaws.{least, greatest, no_block, next_block, one_more}
use Rattle.lane_rows.proofs.ShortLaws.{of_bits, fit_as_bits}
use Rattle.lane_rows.proofs.extent.extents_of_short_lanes.Goals as goal

pub loop-block-init : goal.loop-block-init
loop-block-init c =
    let first = to_z w16 (of_z w16 c.args.first) in
    let fits =
    Each1-replicate (FitsSigned w16) 16 first
    (subst (FitsSigned w16) (sym (to_z-of_z w16 _ c.ranges.first)) c.ranges.first) in
    record {
      least = no_block least first 16;
      greatest = no_block greatest first 16;
      least_fits = fits;
      greatest_fits = fits;
    }

pub loop-block-preserved : goal.loop-block-preserved
loop-block-preserved c =
    let l = c.loop-block in
    let i = l.block-index in
    let first = to_z w16 (of_z w16 c.args.first) in
    let block = get_or c.args.blocks.now i [] in
    let read = c.shorts-items.ensures in
    let low = c.shorts-least.ensures in
    let high = c.shorts-greatest.ensures in
    let items : map (to_z w16) (map (of_z w16) c.shorts-items.result) ≡ block =
    of_bits w16 _ read.fits ∙ read.value ∙ map-id _ in
    let long = c.told-blocks i c.loop-block-test.true in
    let more = one_more c.args.blocks.now i c.loop-block-test.true in
    record {
      least =
          next_block least first _ block _ _ _ 16 long more
          (of_bits w16 _ low.fits ∙ low.value ∙ ap (zip2 int_min _) items) l.invariant.least;
      greatest =
          next_block greatest first _ block _ _ _ 16 long more
          (of_bits w16 _ high.fits ∙ high.value ∙ ap (zip2 int_max _) items)
          l.invariant.greatest;
      least_fits = fit_as_bits w16 _ low.fits;
      greatest_fits = fit_as_bits w16 _ high.fits;
    }
