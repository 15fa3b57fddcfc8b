use Rattle.std.proofs.Common.{◌≡◌, ◌-◌, ◌||◌, ◌∙◌, Option, Some, None, length, ap, pos, arith, subst, IfNone, length-set}
use Rattle.pgm_images.proofs.Common.{take_next, ends, PlainUpTo}
use Rattle.pgm_images.proofs.RasterLemmas.{filling_set, filling_none}
use Rattle.pgm_images.proofs.raster.read_singly.Goals as goal

if_none : {A : Type 0} (o : Option A) (P : Type 0) → P → IfNone o P
if_none None P is = is
if_none (Some a) P is = tt

pub returns-in_err-number-clause-none : goal.returns-in_err-number-clause-none
returns-in_err-number-clause-none g c =
    if_none c.from_residual.result _
    (λ above whole before. filling_none take_next ends c.args.maxval
    (length c.loop-index.samples - c.loop-index.index) (above || c.loop-index.high) _ _ whole
    (omega arith) c.in_err-number.ensures.none (c.loop-index.invariant.1 above whole before))

pub loop-index-preserved : goal.loop-index-preserved
loop-index-preserved g c = (
  length-set c.loop-index.samples c.loop-index.index c.of_number.result ∙ c.loop-index.invariant.0,
  λ above whole before. filling_set g.T.Number.value take_next ends c.args.maxval
      c.in_ok-number.number
      c.loop-index.index (above || c.loop-index.high) _ c.loop-index.samples c.of_number.result
      _ _ whole
      (omega arith) c.requires.maxval c.in_ok-number.ensures.some
      (c.of_number.ensures ∙ ap pos c.min.ensures)
      (grind arith) (c.loop-index.invariant.1 above whole before),
)

pub returns-clause-some : goal.returns-clause-some
returns-clause-some g c above whole before =
    let all : c.loop-index.index ≡ c.args.to = omega arith in
    subst
    (λ i. PlainUpTo g.T.Number.value c.args.maxval i (above || c.loop-index.high)
    c.loop-index.samples c.loop-index.rest.now whole)
    all (c.loop-index.invariant.1 above whole before)
