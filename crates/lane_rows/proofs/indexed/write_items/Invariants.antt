use Rattle.std.proofs.Common.{◌≡◌, map, take}
use Rattle.vx_base.specs.Image.{run}
use Rattle.lane_rows.proofs.indexed.write_items.Given as goal

abbrev pub invariant-loop-i : goal.invariant-loop-i
invariant-loop-i g l = map g.T.Item.value (take l.i l.out) ≡ run 0 l.i (g.R.Indexed.at l.row)
