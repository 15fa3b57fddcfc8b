use Rattle.std.proofs.Common.{◌≡◌, ◌*◌, map, take}
use Rattle.lane_rows.proofs.Common.{count_of}
use Rattle.lane_rows.proofs.occurrences.without.Given as goal

abbrev pub invariant-loop-k : goal.invariant-loop-k
invariant-loop-k g l =
    count_of (g.T.Item.value l.item) (map g.T.Item.value (take (32 * l.k) l.row)) ≡ 0
