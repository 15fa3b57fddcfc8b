use Rattle.std.proofs.Common.{◌≡◌, ◌+◌, ◌-◌, length, arith, refl, rules}
use Rattle.lane_rows.proofs.RunLaws.{block_at, whole_run}
use Rattle.lane_rows.proofs.indexed.write_last.Goals as goal

pub returns : goal.returns
returns g c before =
    let value = g.T.Item.value in
    let at = g.R.Indexed.at c.args.row.now in
    let n = length c.args.out.now in
    let end : n ≡ n - 32 + 32 = omega (arith, c.requires.room) in
    whole_run value at _ n n (search rules) refl
    (block_at value at c.args.out.now c.lanes.new.out (n - 32) _ n
    (omega (arith, c.requires.room)) end before c.lanes.ensures)
