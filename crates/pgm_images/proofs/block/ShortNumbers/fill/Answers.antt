use Rattle.std.proofs.Common.{◌+◌, ◌-◌, ℕ, drop, ◌∙◌, ap, pos, arith, length-set}
use Rattle.pgm_images.proofs.Common.{nat_tests, count_trailing_zeros, take_next, ends, TakesNumber}
use lib.Bits.{and_le_r}
use Rattle.pgm_images.proofs.RasterLemmas.{filling_set}
use Rattle.pgm_images.proofs.BlockLemmas.{walk_lowest}
use Rattle.pgm_images.proofs.block.ShortNumbers.fill.Goals as goal

pub of_number-requires : goal.of_number-requires
of_number-requires g c =
    let next =
    walk_lowest c.args.maxval c.args.self.now.numbers c.args.self.now.bytes c.args.text.now
    c.requires.block.found c.loop-left.left c.loop-left.end c.loop-left.invariant.0
    c.loop-left-test.true c.loop-left.auto.left-fits.fits in
    omega (arith, next.low, c.from.ensures, c.requires.limit)

pub loop-left-smaller : goal.loop-left-smaller
loop-left-smaller g c =
    omega (arith, and_le_r c.loop-left.left (c.loop-left.left - 1), c.loop-left-test.true)

pub loop-left-preserved : goal.loop-left-preserved
loop-left-preserved g c =
    let next =
    walk_lowest c.args.maxval c.args.self.now.numbers c.args.self.now.bytes c.args.text.now
    c.requires.block.found c.loop-left.left c.loop-left.end c.loop-left.invariant.0
    c.loop-left-test.true c.loop-left.auto.left-fits.fits in
    let text = c.args.text.now in
    let place : ℕ = count_trailing_zeros 64 c.loop-left.left in
    let bytes = c.from-in-loop-left.ensures in
    let same = length-set c.loop-left.samples c.loop-left.next c.of_number.result in
    let kept :
    TakesNumber (take_next (drop c.loop-left.end text)) c.from.result
    (drop (place + c.from-in-loop-left.result) text) =
    rw (c.from.ensures, bytes) next.kept in (
      rw bytes next.walk,
      omega (arith, bytes, next.fits),
      λ none. omega arith,
      omega arith,
      omega (arith, same),
      omega (arith, same),
      λ above whole before. filling_set g.T.Number.value take_next ends c.args.maxval
          c.from.result c.loop-left.next above above c.loop-left.samples c.of_number.result _ _
          whole
          c.if-next-samples.true c.requires.maxval kept
          (c.of_number.ensures ∙ ap pos (omega (arith, next.low, c.from.ensures)))
          (grind (arith, nat_tests, next.low, c.from.ensures))
          (c.loop-left.invariant.6 above whole before),
    )
