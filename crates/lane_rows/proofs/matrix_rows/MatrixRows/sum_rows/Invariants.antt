use Rattle.std.proofs.Common.{◌≡◌, ◌+◌}
use Rattle.lane_rows.proofs.MatrixSumLaws.{first_rows}
use Rattle.lane_rows.proofs.matrix_rows.MatrixRows.sum_rows.Given as goal

abbrev pub invariant-loop-l : goal.invariant-loop-l
invariant-loop-l l = record {
  even : l.even ≡ first_rows l.self l.l l.index;
  odd : l.odd ≡ first_rows l.self l.l (l.index + 1);
}
