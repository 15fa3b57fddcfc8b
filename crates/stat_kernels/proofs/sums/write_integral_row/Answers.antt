use Rattle.std.proofs.Common.{◌≡◌, ◌+◌, ◌-◌, ◌∙◌, length, replicate, take, drop, ap, arith}
use Rattle.stat_kernels.proofs.Common.{Rectangle, columns_in, sums_below}
use Rattle.stat_kernels.proofs.SumLaws.{row_is}
use Rattle.stat_kernels.proofs.sums.write_integral_row.Goals as goal

pub returns : goal.returns
returns c =
    let image = c.args.image.now in
    let above = c.args.above.now in
    let row = c.valid_row-row.result.now in
    let n = columns_in image.valid c.args.y in
    let wide = c.valid_row-row.ensures.len in
    let x : c.from-x.result ≡ image.valid.x0 =
    c.from-x.ensures ∙ c.x0.ensures.value ∙ ap (λ (r : Rectangle). r.x0) c.valid.ensures.value in
    let width : c.from-x.result + length row - c.from-x.result ≡ n = omega arith in
    let right : length c.split_at_mut-middle.result.1.now ≡ image.width - (image.valid.x0 + n) =
    omega (
      arith,
      c.split_at_mut-middle.ensures.back_len,
      c.split_at_mut-left.ensures.back_len,
      c.requires.out_len,
    ) in
    row_is image c.args.y above row c.fill.new.self c.running_sums.new.out c.fill-2.new.self
    c.valid_row-row.ensures.value wide
    (c.running_sums.ensures
    ∙ ap (λ m. sums_below (take m (drop c.from-x.result above)) row) width
    ∙ ap (λ m. sums_below (take n (drop m above)) row) x)
    (c.running_sums.auto.out ∙ c.split_at_mut-middle.ensures.front_len ∙ wide)
    (omega (arith, c.valid_row-row.ensures.within))
    (c.fill.ensures.after (λ y same. same)
    ∙ ap (λ n. replicate n 0) (c.split_at_mut-left.ensures.front_len ∙ x))
    (c.fill-2.ensures.after (λ y same. same) ∙ ap (λ n. replicate n 0) right)
