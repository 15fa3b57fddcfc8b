use Rattle.std.proofs.Common.{◌≡◌, ◌∙◌, ◌+◌, sym, ap, subst, get_or, arith}
use Rattle.stat_kernels.proofs.Common.{valid_samples, valid_in}
use Rattle.stat_kernels.proofs.TallyLaws.{AreCounted, counted_all, counted_few, counted_none, counted_other, counted_some, zero_at}
use Rattle.stat_kernels.proofs.counts.add_histogram.Goals as goal
use Rattle.stat_kernels.proofs.counts.add_histogram.Goals.{in-Some, in_default}

pub count_values-requires-clause-zeros : goal.count_values-requires-clause-zeros
count_values-requires-clause-zeros c v = omega (arith, zero_at 256 v)

pub loop-value-init : goal.loop-value-init
loop-value-init c =
    counted_none c.args.bins (valid_samples (valid_in c.args.rows c.args.image.now))
    c.args.counts.now

pub overflow_add-counts : goal.overflow_add-counts
overflow_add-counts c =
    let bin = c.in-Some.bin in
    let few =
    counted_few c.args.bins (valid_samples (valid_in c.args.rows c.args.image.now))
    c.args.counts.now c.loop-value.value c.loop-value.counts c.loop-value.invariant bin
    (sym c.bin_of.ensures.value ∙ c.in-Some.is)
    (omega (arith, c.in-Some.ensures.below, c.requires.size)) in
    omega (
      arith,
      ap (λ i. get_or c.loop-value.counts i 0) c.from.ensures,
      few,
      c.requires.room bin,
      c.count_values.ensures.counted c.loop-value.value,
    )

pub loop-value-preserved : goal.loop-value-preserved
loop-value-preserved c =
    let zs = valid_samples (valid_in c.args.rows c.args.image.now) in
    let before = c.args.counts.now in
    let value = c.loop-value.value in
    elim c.match-bin_of.branch [
      | in-Some w ↦
          counted_some c.args.bins zs before value c.loop-value.counts c.loop-value.invariant _
          w.from.result w.in-Some.bin _ w.counts-is w.from.ensures
          (sym c.bin_of.ensures.value ∙ w.in-Some.is)
          (omega (arith, w.in-Some.ensures.below, c.requires.size))
          (c.count_values.ensures.counted value)
      | in_default w ↦
          subst (AreCounted c.args.bins zs before (value + 1)) (sym w.counts-is)
          (counted_other c.args.bins zs before value c.loop-value.counts c.loop-value.invariant
          (sym c.bin_of.ensures.value ∙ w.in_default.is))
    ]

pub returns : goal.returns
returns c =
    let zs = valid_samples (valid_in c.args.rows c.args.image.now) in
    let last : c.loop-value.value ≡ 256 =
    omega (arith, c.loop-value-test.false, c.loop-value.auto.value-end) in
    counted_all c.args.bins zs c.args.counts.now c.loop-value.counts c.requires.size
    c.count_values.ensures.bytes
    (subst (λ v. AreCounted c.args.bins zs c.args.counts.now v c.loop-value.counts) last
    c.loop-value.invariant)
