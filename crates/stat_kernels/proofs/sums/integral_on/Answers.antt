use Rattle.std.proofs.Common.{take_all, ◌≡◌, ◌+◌, ◌*◌, ◌≤◌, ◌∙◌, pos, length, map, take, drop, ap, sym, arith, option_copied, length-take-le}
use Rattle.stat_kernels.proofs.Common.{Description, band, run, zero_outside, row_fits, row_sums, sum_on}
use Rattle.stat_kernels.proofs.SumLaws.{copied_or, next_follows, rows_written}
use Rattle.std.specs.Option.{option_or}
use Rattle.stat_kernels.proofs.ScanLaws.{band_scans}
use Rattle.stat_kernels.proofs.sums.integral_on.Goals as goal

pub loop-k-preserved : goal.loop-k-preserved
loop-k-preserved c =
    let image = c.args.image.now in
    let rows = c.args.rows in
    let k = c.loop-k.k in
    let width = c.from-width.result in
    let before = c.split_at_mut-before.result.0.now in
    let others = c.split_at_mut-before.result.1.now in
    let at : c.from.result * width ≡ k * width = ap (λ n. n * width) c.from.ensures in
    let wide : width ≡ image.width =
    c.from-width.ensures
    ∙ c.width.ensures.value
    ∙ ap (λ (d : Description). d.width) c.desc.ensures in
    let size : length c.loop-k.samples ≡ rows.count * width =
    c.loop-k.auto.samples ∙ c.requires.size ∙ ap (λ n. rows.count * n) (sym wide) in
    let start : length before ≡ k * width = c.split_at_mut-before.ensures.front_len ∙ at in
    let room : width ≤ length others =
    omega (
      arith,
      row_fits width rows.count k c.loop-k-test.true,
      c.split_at_mut-before.ensures.back_len,
      at,
      size,
    ) in
    let long : length c.write_integral_row.new.out ≡ width =
    c.write_integral_row.auto.out ∙ length-take-le width others room in
    let last =
    ap option_copied c.or.ensures
    ∙ copied_or c.row_above.result c.args.above
    ∙ ap (λ o. option_or o (option_copied c.args.above)) c.row_above.ensures in
    let f =
    zero_outside image.valid (sum_on image rows.start (row_sums (option_copied c.args.above))) in
    let so_far =
    ap (map pos) (c.split_at_mut-before.ensures.front ∙ ap (λ n. take n c.loop-k.samples) at)
    ∙ c.loop-k.invariant in
    rows_written k width before c.write_integral_row.new.out (drop width others) start long
    rows.start f so_far
    (c.write_integral_row.ensures
    ∙ next_follows image rows.start width before (option_copied c.args.above)
    (omega (arith, c.width.ensures.limits, c.from-width.ensures)) wide k _ so_far start
    (λ x. c.sums_above-above.ensures.sums x ∙ ap (λ o. row_sums o x) last)
    ∙ ap (λ n. run 0 n (λ x. f x (rows.start + k))) (sym wide))

pub returns-clause-whole : goal.returns-clause-whole
returns-clause-whole c = λ whole line are is_above.
    let image = c.args.image.now in
    let rows = c.args.rows in
    let f =
    zero_outside image.valid (sum_on image rows.start (row_sums (option_copied c.args.above))) in
    let width = c.from-width.result in
    let wide : width ≡ image.width =
    c.from-width.ensures
    ∙ c.width.ensures.value
    ∙ ap (λ (d : Description). d.width) c.desc.ensures in
    let last : c.loop-k.k ≡ rows.count = omega arith in
    let size : length c.loop-k.samples ≡ c.loop-k.k * width =
    c.loop-k.auto.samples ∙ c.requires.size ∙ cc in
    sym (ap (map pos) (take_all (c.loop-k.k * width) c.loop-k.samples (omega (arith, size))))
    ∙ c.loop-k.invariant
    ∙ ap (λ w. band w rows.start c.loop-k.k f) wide
    ∙ ap (λ n. band image.width rows.start n f) last
    ∙ band_scans image whole rows line (option_copied c.args.above) are is_above
