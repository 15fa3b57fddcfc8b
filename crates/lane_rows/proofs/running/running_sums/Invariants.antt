use Rattle.std.proofs.Common.{◌≡◌, ◌%◌, ◌^◌, map, take}
use Rattle.lane_rows.proofs.Common.{sum, range_with_len, sum_below}
use Rattle.lane_rows.proofs.running.running_sums.Given as goal

abbrev pub invariant-loop-k : goal.invariant-loop-k
invariant-loop-k l =
    record {
      written : take l.k l.out ≡ map (sum_below l.above l.row) (range_with_len 0 l.k);
      total : l.total ≡ sum (take l.k l.row) % 2 ^ 32;
    }
