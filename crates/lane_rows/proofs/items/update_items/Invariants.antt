use Rattle.std.proofs.Common.{◌≡◌, ◌≤◌, ℕ, map, take, get_or}
use Rattle.lane_rows.proofs.Common.{zip2}
use Rattle.lane_rows.proofs.items.update_items.Given as goal

abbrev pub invariant-loop-i : goal.invariant-loop-i
invariant-loop-i g l = record {
  updated :
      map g.T.Item.value (take l.i l.sums)
      ≡ zip2 (g.K.OfSum.formula l.kernel) (map g.A.Item.value (take l.i l.row))
      (map g.T.Item.value (take l.i l.initial.sums));
  left : (k : ℕ) (d : g.row.T.Denot) → l.i ≤ k → get_or l.sums k d ≡ get_or l.initial.sums k d;
}
