use Rattle.std.proofs.Common.{◌∙◌, ap, pos, refl, sym, arith}
use Rattle.pgm_images.proofs.Common.{take_long_sample, nothing_left}
use Rattle.pgm_images.proofs.RasterLemmas.{filling_set, filling_done, none_left}
use Rattle.pgm_images.proofs.raster.read_pairs.Goals as goal

pub loop-index-preserved : goal.loop-index-preserved
loop-index-preserved g c =
    filling_set g.T.Number.value take_long_sample nothing_left c.args.maxval c.in-Some.number
    c.loop-index.index c.loop-index.above _ c.loop-index.samples c.of_number.result _ _ _
    (omega arith) c.requires.maxval c.in-Some.ensures.some
    (c.of_number.ensures ∙ ap pos c.min.ensures) refl c.loop-index.invariant

pub returns-else-above : goal.returns-else-above
returns-else-above g c =
    filling_done g.T.Number.value take_long_sample nothing_left c.args.maxval c.loop-index.index
    c.loop-index.above c.loop-index.samples _ _ _
    (omega arith) c.if-above.false
    (none_left c.loop-index.rest.now (sym c.is_empty.ensures ∙ c.if-not-is_empty.false))
    c.loop-index.invariant
