use Rattle.std.proofs.Common.{◌≡◌, map, take}
use Rattle.lane_rows.proofs.Common.{count_of}
use Rattle.lane_rows.proofs.occurrences.first_of.Given as goal

abbrev pub invariant-loop-i : goal.invariant-loop-i
invariant-loop-i g l = count_of (g.T.Item.value l.item) (map g.T.Item.value (take l.i l.row)) ≡ 0
