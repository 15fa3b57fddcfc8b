use Rattle.std.proofs.Common.{◌≡◌, map, take}
use Rattle.lane_rows.proofs.Common.{fold}
use Rattle.lane_rows.proofs.items.fold_items.Given as goal

abbrev pub invariant-loop-item : goal.invariant-loop-item
invariant-loop-item g l =
    g.T.Item.value l.total
    ≡ fold (g.K.OfPair.formula l.kernel) (g.T.Item.value l.fn.start)
    (map g.T.Item.value (take l.item-index l.row))
