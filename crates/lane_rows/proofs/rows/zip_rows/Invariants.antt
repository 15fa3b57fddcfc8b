use Rattle.std.proofs.Common.{◌≡◌, ◌*◌, map, take}
use Rattle.lane_rows.proofs.Common.{zip2}
use Rattle.lane_rows.proofs.rows.zip_rows.Given as goal

abbrev pub invariant-loop-k : goal.invariant-loop-k
invariant-loop-k g l =
    map g.T.Item.value (take (32 * l.k) l.out)
    ≡ zip2 (g.K.OfPair.formula l.kernel) (map g.A.Item.value (take (32 * l.k) l.first))
    (map g.B.Item.value (take (32 * l.k) l.second))
