use Rattle.std.proofs.Common.{◌+◌, ◌*◌}
use Rattle.lane_rows.proofs.Common.{row_sum}
use Rattle.lane_rows.proofs.PairLaws.{Added}
use Rattle.lane_rows.proofs.pairs.add_row.Given as goal

abbrev pub invariant-loop-j : goal.invariant-loop-j
invariant-loop-j l = record {
  left : Added (λ i. row_sum l.row l.table l.j (l.index + 2 * i)) l.fn.even l.left;
  right : Added (λ i. row_sum l.row l.table l.j (l.index + 1 + 2 * i)) l.fn.odd l.right;
}
