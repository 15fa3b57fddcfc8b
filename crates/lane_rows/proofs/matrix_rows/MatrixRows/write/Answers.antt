use Rattle.std.proofs.Common.{◌≡◌, ℕ, ℤ, ◌∙◌, ◌+◌, ◌-◌, ◌*◌, ◌≤◌, ap, sym, pos, map, length, take, drop, min, arith, int_div, take_all, ◌^◌, length-take, length-drop}
use Rattle.lane_rows.proofs.Common.{clamp, run, matrix_sum}
use Rattle.lane_rows.proofs.RunLaws.{block_written}
use Rattle.lane_rows.proofs.matrix_rows.MatrixRows.write.Goals as goal

pub loop-k-preserved : goal.loop-k-preserved
loop-k-preserved g c =
    let m = c.args.self.now in
    let k = c.loop-k.k in
    let n = length c.args.out.now in
    let e = c.min-end.result in
    let at : ℕ → ℤ =
    λ i. clamp g.T.Clamped.format (int_div (matrix_sum m i) (pos (2 ^ m.exponent))) in
    let begun : 32 * k ≤ n = omega (arith, c.loop-k-test.true, c.div_ceil-k-end.ensures) in
    let part : length (take (e - 32 * k) (drop (32 * k) c.loop-k.out)) ≡ e - 32 * k =
    simp (length-take, length-drop) (omega (arith, c.min-end.ensures, c.loop-k.auto.out)) in
    block_written g.T.Item.value at c.loop-k.out c.write_block.new.out k _ n e c.loop-k.auto.out
    c.min-end.ensures begun c.loop-k.invariant (c.write_block.auto.out ∙ part)
    (c.write_block.ensures ∙ ap (λ i. run 0 i (λ i. at (32 * k + i))) (sym c.write_block.auto.out))

pub returns : goal.returns
returns g c =
    let m = c.args.self.now in
    let n = length c.args.out.now in
    let at : ℕ → ℤ =
    λ i. clamp g.T.Clamped.format (int_div (matrix_sum m i) (pos (2 ^ m.exponent))) in
    let end : min (32 * c.loop-k.k) n ≡ n =
    omega (arith, c.loop-k-test.false, c.div_ceil-k-end.ensures) in
    ap (map g.T.Item.value)
    (sym (take_all (min (32 * c.loop-k.k) n) c.loop-k.out (omega (arith, end, c.loop-k.auto.out))))
    ∙ c.loop-k.invariant
    ∙ ap (λ i. run 0 i at) end
