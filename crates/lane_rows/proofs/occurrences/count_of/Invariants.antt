use Rattle.std.proofs.Common.{◌≡◌, ◌*◌, map, take}
use Rattle.lane_rows.proofs.Common.{count_of}
use Rattle.lane_rows.proofs.occurrences.count_of.Given as goal

abbrev pub invariant-loop-k : goal.invariant-loop-k
invariant-loop-k g l =
    l.count ≡ count_of (g.T.Item.value l.item) (map g.T.Item.value (take (32 * l.k) l.row))

abbrev pub invariant-loop-i : goal.invariant-loop-i
invariant-loop-i g l =
    l.count ≡ count_of (g.T.Item.value l.item) (map g.T.Item.value (take l.i l.row))
