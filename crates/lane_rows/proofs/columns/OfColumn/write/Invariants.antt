use Rattle.std.proofs.Common.{◌≡◌, map, take}
use Rattle.vx_base.specs.Image.{run}
use Rattle.lane_rows.specs.Threes.{number_at}
use Rattle.lane_rows.proofs.columns.OfColumn.write.Given as goal

abbrev pub invariant-loop-i : goal.invariant-loop-i
invariant-loop-i g l =
    map g.T.Item.value (take l.i l.out)
    ≡ run 0 l.i
    (λ i. g.Self.OfColumn.formula (number_at (map g.A.Item.value l.first) i)
    (number_at (map g.A.Item.value l.second) i) (number_at (map g.A.Item.value l.third) i))
