use Rattle.std.proofs.Common.{◌-◌, ◌*◌, ◌∙◌, length, ap, arith}
use Rattle.vx_base.specs.Image.{run}
use Rattle.lane_rows.proofs.RunLaws.{block_of_run, shorter_run}
use Rattle.lane_rows.proofs.indexed.write_indexed.Goals as goal

pub loop-k-preserved : goal.loop-k-preserved
loop-k-preserved g c =
    block_of_run g.T.Item.value (g.R.Indexed.at c.args.row.now) c.loop-k.out c.lanes.new.out
    c.loop-k.k _
    (omega (arith, c.loop-k-test.true, c.loop-k.auto.out)) c.loop-k.invariant c.lanes.ensures

pub returns : goal.returns
returns g c =
    let at = g.R.Indexed.at c.args.row.now in
    let out = c.loop-k.out in
    c.write_last.ensures
    (shorter_run g.T.Item.value at out (length out - 32) (32 * c.loop-k.k)
    (omega (arith, c.loop-k-test.false, c.loop-k.auto.out)) c.loop-k.invariant)
    ∙ ap (λ k. run 0 k at) c.loop-k.auto.out
