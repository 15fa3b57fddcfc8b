use Rattle.std.proofs.Common.{ℤ, ◌<◌, ◌∙◌, length, sym, ap, arith, get_or, take, map, pos}
use Rattle.stat_kernels.proofs.Common.{count_of, get_or-run, length-map, nat_tests, take-map-range_with_len, length-run}
use Rattle.lane_rows.proofs.CountLaws.{none_of_first}
use Rattle.stat_kernels.proofs.MergeLaws.{first_in_row}
use Rattle.stat_kernels.proofs.extreme.Extreme.include_row.Goals as goal

pub returns-then-is_beyond : goal.returns-then-is_beyond
returns-then-is_beyond g c f n row =
    let v = g.T.Item.value c.args.sample in
    let ws = map g.T.Item.value c.args.row.now in
    let x = c.args.x in
    let y = c.args.y in
    let i = c.first_of.result in
    let below : i < n =
    omega (
      arith,
      c.first_of.ensures.below,
      length-map c.args.row.now g.T.Item.value,
      ap (length {A = ℤ}) row,
      length-run (λ k. f k y) x n,
    ) in
    let here =
    sym (get_or-run (λ k. f k y) x n i (pos 0) below)
    ∙ ap (λ l. get_or l i (pos 0)) (sym row)
    ∙ c.first_of.ensures.here in
    let none =
    ap (count_of v) (sym (take-map-range_with_len (λ k. f k y) x n i (omega arith)))
    ∙ ap (λ l. count_of v (take i l)) (sym row)
    ∙ none_of_first v ws i c.first_of.ensures.none_before in
    let first = first_in_row f v x y n i below here none in
    grind (arith, nat_tests, first, c.requires.among, c.short.ensures, c.count_of.ensures)
