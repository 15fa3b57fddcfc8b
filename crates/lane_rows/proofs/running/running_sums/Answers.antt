use Rattle.std.proofs.Common.{◌≡◌, ◌+◌, ◌%◌, ◌<◌, ◌∙◌, length, get_or, arith}
use Rattle.lane_rows.proofs.Common.{sum_below}
use Rattle.lane_rows.proofs.RunningLaws.{total_more, place_written, all_written}
use Rattle.lane_rows.proofs.running.running_sums.Goals as goal

pub loop-k-preserved : goal.loop-k-preserved
loop-k-preserved c =
    let row = c.args.row.now in
    let above = c.args.above.now in
    let k = c.loop-k.k in
    let total = (c.loop-k.total + c.from-total.result) % 4294967296 in
    let room : k < length c.loop-k.out =
    omega (
      arith,
      c.loop-k.auto.out,
      c.write_block_sums-total.auto.out,
      c.requires.out_len,
      c.loop-k-test.true,
    ) in
    let more =
    total_more row k c.loop-k.total c.from-total.result c.loop-k-test.true
    c.loop-k.invariant.total c.from-total.ensures in
    record {
      written =
          place_written (sum_below above row) c.loop-k.out k
          ((get_or above k 0 + total) % 4294967296) room c.loop-k.invariant.written
          (omega (arith, more));
      total = more;
    }

pub returns : goal.returns
returns c =
    let long : length c.loop-k.out ≡ length c.args.row.now =
    c.loop-k.auto.out ∙ c.write_block_sums-total.auto.out ∙ c.requires.out_len in
    all_written (sum_below c.args.above.now c.args.row.now) c.loop-k.out (length c.args.row.now)
    c.loop-k.k (omega (arith, long)) (omega arith) c.loop-k.invariant.written
