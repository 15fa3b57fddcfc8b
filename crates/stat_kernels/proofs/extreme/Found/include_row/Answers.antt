use Rattle.std.proofs.Common.{◌≡◌, ℤ, ◌∙◌, refl, ap, sym, map, length, arith, rules, int_lt}
use Rattle.stat_kernels.proofs.Common.{int_min, int_max, nat_tests, length-map, row_pixels, length-run}
use Rattle.stat_kernels.proofs.MergeLaws.{row_merged, same_order}
use Rattle.stat_kernels.proofs.PlaceLaws.{row_samples}
use Rattle.stat_kernels.proofs.extreme.Found.include_row.Goals as goal

pub returns-then-is_empty : goal.returns-then-is_empty
returns-then-is_empty g c f n row =
    let none : n ≡ 0 =
    grind (
      arith,
      nat_tests,
      c.is_empty.ensures,
      c.if-is_empty.true,
      ap (length {A = ℤ}) row,
      length-run (λ k. f k c.args.y) c.args.x n,
      length-map c.args.row.now g.T.Item.value,
    ) in
    rw none refl

pub returns : goal.returns
returns g c f n row =
    let ws = map g.T.Item.value c.args.row.now in
    let ps = row_pixels c.args.x n c.args.y in
    let samples = row ∙ sym (row_samples f c.args.x n c.args.y) in
    let a = c.args.self in
    let low =
    same_order c.short.result a.least.value (search rules) (search rules)
    ∙ ap (λ z. int_lt z a.least.value) c.short.ensures in
    let high =
    same_order a.greatest.value c.short-2.result (search rules) (search rules)
    ∙ ap (int_lt a.greatest.value) c.short-2.ensures in
    let least =
    c.include_row.ensures f n row
    ∙ row_merged int_min int_lt f ps ws (g.T.Item.value c.extent_of-low.result.0) _ a.least
    samples c.extent_of-low.ensures.least low in
    let greatest =
    c.include_row-2.ensures f n row
    ∙ row_merged int_max (λ z v. int_lt v z) f ps ws (g.T.Item.value c.extent_of-low.result.1) _
    a.greatest samples c.extent_of-low.ensures.greatest high in
    rw (least, greatest) refl
