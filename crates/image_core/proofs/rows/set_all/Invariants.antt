use Rattle.std.proofs.Common.{◌≡◌, map, take, replicate}
use Rattle.image_core.proofs.rows.set_all.Given as goal

abbrev pub invariant-loop-item : goal.invariant-loop-item
invariant-loop-item g l =
    map g.T.Number.value (take l.item-index l.out)
    ≡ replicate l.item-index (g.T.Number.value l.sample)
