use Rattle.std.proofs.Common.{◌≡◌, ◌*◌, map, take}
use Rattle.vx_base.specs.Image.{run}
use Rattle.lane_rows.proofs.indexed.write_indexed.Given as goal

abbrev pub invariant-loop-k : goal.invariant-loop-k
invariant-loop-k g l =
    map g.T.Item.value (take (32 * l.k) l.out) ≡ run 0 (32 * l.k) (g.R.Indexed.at l.row)
