use Rattle.std.proofs.Common.{◌≡◌, ◌*◌, pos, map, take, length, min, int_div, ◌^◌}
use Rattle.lane_rows.proofs.Common.{clamp, run, matrix_sum}
use Rattle.lane_rows.proofs.matrix_rows.MatrixRows.write.Given as goal

abbrev pub invariant-loop-k : goal.invariant-loop-k
invariant-loop-k g l =
    let n = length l.fn.out in
    map g.T.Item.value (take (min (32 * l.k) n) l.out)
    ≡ run 0 (min (32 * l.k) n)
    (λ i. clamp g.T.Clamped.format (int_div (matrix_sum l.self i) (pos (2 ^ l.self.exponent))))
