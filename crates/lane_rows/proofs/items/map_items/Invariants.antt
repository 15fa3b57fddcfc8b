use Rattle.std.proofs.Common.{◌≡◌, map, take}
use Rattle.lane_rows.proofs.items.map_items.Given as goal

abbrev pub invariant-loop-i : goal.invariant-loop-i
invariant-loop-i g l =
    map g.T.Item.value (take l.i l.out)
    ≡ map (g.K.OfItem.formula l.kernel) (map g.A.Item.value (take l.i l.row))
