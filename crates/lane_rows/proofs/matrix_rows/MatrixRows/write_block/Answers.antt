use Rattle.std.proofs.Common.{ℤ, ◌∙◌, ◌+◌, ◌^◌, ap, sym, pos, map, length, take, arith, int_div, map-id}
use Rattle.lane_rows.proofs.Common.{clamp, run, run_part, matrix_sum}
use Rattle.vx_base.proofs.TableLaws.{map_of_run}
use Rattle.lane_rows.proofs.matrix_rows.MatrixRows.write_block.Goals as goal

pub returns-then-out-eq32 : goal.returns-then-out-eq32
returns-then-out-eq32 g c =
    let m = c.args.self.now in
    let sums = c.sum_block-sums in
    let f : ℤ → ℤ = λ z. clamp g.T.Clamped.format (int_div z (pos (2 ^ m.exponent))) in
    map_of_run f (λ i. matrix_sum m (c.args.index + i)) 0 (length c.args.out.now) sums.result _
    (sums.ensures
    ∙ ap (λ n. run 0 n (λ i. matrix_sum m (c.args.index + i))) (sym c.if-out-eq32.true))
    (c.lanes.ensures ∙ ap (map f) (map-id sums.result))

pub returns-else-out-eq32 : goal.returns-else-out-eq32
returns-else-out-eq32 g c =
    let m = c.args.self.now in
    let n = length c.args.out.now in
    let sums = c.sum_block-sums in
    let f : ℤ → ℤ = λ z. clamp g.T.Clamped.format (int_div z (pos (2 ^ m.exponent))) in
    map_of_run f (λ i. matrix_sum m (c.args.index + i)) 0 n (take n sums.result) _
    (ap (take n) sums.ensures
    ∙ run_part (λ i. matrix_sum m (c.args.index + i)) 32 0 n (omega (arith, c.requires.few)))
    (c.map_items.ensures ∙ ap (map f) (map-id (take n sums.result)))
