use Rattle.std.proofs.Common.{◌≡◌, ◌+◌, ◌*◌, ◌≤◌, length, arith, ◌∙◌}
use Rattle.lane_rows.proofs.RunningLaws.{block_is, block_written, block_total}
use Rattle.lane_rows.proofs.running.write_block_sums.Goals as goal

pub loop-block-preserved : goal.loop-block-preserved
loop-block-preserved c =
    let row = c.args.row.now in
    let above = c.args.above.now in
    let i = 16 * c.loop-block.block in
    let next : 16 * (c.loop-block.block + 1) ≡ i + 16 = omega arith in
    let inside : i + 16 ≤ length row = omega (arith, c.loop-block-test.true, c.requires.inside) in
    record {
      written =
          block_written row above i inside _ c.loop-block.out (16 * (c.loop-block.block + 1)) _
          next (c.loop-block.auto.out ∙ c.requires.out_len)
          (block_is row above i inside c.running-sums.result c.loop-block.total
          (omega (arith, inside, c.requires.above_len)) c.running-sums.ensures
          c.loop-block.invariant.total)
          c.loop-block.invariant.written;
      total =
          block_total row above i inside c.running-sums.result c.loop-block.total
          (16 * (c.loop-block.block + 1)) next c.running-sums.ensures
          c.loop-block.invariant.total;
    }
