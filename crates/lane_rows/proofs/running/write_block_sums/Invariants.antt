use Rattle.std.proofs.Common.{◌≡◌, ◌*◌, ◌%◌, ◌^◌, map, take, replicate}
use Rattle.lane_rows.proofs.Common.{sum, range_with_len, sum_below}
use Rattle.lane_rows.proofs.running.write_block_sums.Given as goal

abbrev pub invariant-loop-block : goal.invariant-loop-block
invariant-loop-block l =
    record {
      written :
          take (16 * l.block) l.out
          ≡ map (sum_below l.above l.row) (range_with_len 0 (16 * l.block));
      total : l.total ≡ replicate 8 (sum (take (16 * l.block) l.row) % 2 ^ 32);
    }
