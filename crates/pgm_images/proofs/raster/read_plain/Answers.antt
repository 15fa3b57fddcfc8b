use Rattle.std.proofs.Common.{ap, ◌∙◌, length, subst, sym, arith}
use Rattle.pgm_images.proofs.Common.{samples_up_to, take_next, ends, take_count, PlainUpTo}
use Rattle.std.proofs.lemmas.List.{take_rest}
use Rattle.pgm_images.proofs.RasterLemmas.{filling_done}
use Rattle.pgm_images.proofs.raster.read_plain.Goals as goal

pub loop-index-preserved-then-begins-ne0 : goal.loop-index-preserved-then-begins-ne0
loop-index-preserved-then-begins-ne0 g c =
    let rest = sym (take_rest c.loop-index.rest.now c.fill-end.result.0) in (
      subst
          (λ rest. PlainUpTo g.T.Number.value c.args.maxval c.fill-end.result.1
          c.loop-index.above c.fill-end.new.samples rest
          (take_count take_next ends (length c.args.samples.now) c.args.text.now))
          rest
          (c.fill-end.ensures.filled c.loop-index.above _ c.loop-index.invariant.0),
      c.fill-end.ensures.same ∙ c.loop-index.invariant.1,
      c.fill-end.ensures.within,
    )

pub returns-in_default : goal.returns-in_default
returns-in_default g c = record {
  ok = tt;
  err =
      ap (samples_up_to c.args.maxval)
      (c.in_default.ensures.none c.loop-index.above _ c.loop-index.invariant.0);
}

pub returns-else-above : goal.returns-else-above
returns-else-above g c =
    filling_done g.T.Number.value take_next ends c.args.maxval c.loop-index.index
    c.loop-index.above c.loop-index.samples _ _ _
    (omega arith) c.if-above.false (sym c.ends.ensures ∙ c.if-not-ends.false)
    c.loop-index.invariant.0
