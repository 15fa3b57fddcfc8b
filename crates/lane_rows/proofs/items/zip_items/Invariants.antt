use Rattle.std.proofs.Common.{◌≡◌, map, take}
use Rattle.lane_rows.proofs.Common.{zip2}
use Rattle.lane_rows.proofs.items.zip_items.Given as goal

abbrev pub invariant-loop-i : goal.invariant-loop-i
invariant-loop-i g l =
    map g.T.Item.value (take l.i l.out)
    ≡ zip2 (g.K.OfPair.formula l.kernel) (map g.A.Item.value (take l.i l.first))
    (map g.B.Item.value (take l.i l.second))
