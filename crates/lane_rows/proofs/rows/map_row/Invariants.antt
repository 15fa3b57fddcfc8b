use Rattle.std.proofs.Common.{◌≡◌, ◌*◌, map, take}
use Rattle.lane_rows.proofs.rows.map_row.Given as goal

abbrev pub invariant-loop-k : goal.invariant-loop-k
invariant-loop-k g l =
    map g.T.Item.value (take (32 * l.k) l.out)
    ≡ map (g.K.OfItem.formula l.kernel) (map g.A.Item.value (take (32 * l.k) l.row))
