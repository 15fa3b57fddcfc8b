use Rattle.std.proofs.Common.{◌≡◌, ◌*◌, map, take, drop}
use Rattle.lane_rows.proofs.Common.{zip2}
use Rattle.lane_rows.proofs.rows.update_row.Given as goal

abbrev pub invariant-loop-k : goal.invariant-loop-k
invariant-loop-k g l = record {
  updated :
      map g.T.Item.value (take (16 * l.k) l.sums)
      ≡ zip2 (g.K.OfSum.formula l.kernel) (map g.A.Item.value (take (16 * l.k) l.row))
      (map g.T.Item.value (take (16 * l.k) l.initial.sums));
  left : drop (16 * l.k) l.sums ≡ drop (16 * l.k) l.initial.sums;
}
