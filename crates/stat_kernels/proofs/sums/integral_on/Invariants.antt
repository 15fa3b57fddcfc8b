use Rattle.std.proofs.Common.{◌≡◌, ◌*◌, pos, map, take, option_copied}
use Rattle.stat_kernels.proofs.Common.{band, zero_outside, row_sums, sum_on}
use Rattle.stat_kernels.proofs.sums.integral_on.Given as goal

abbrev pub invariant-loop-k : goal.invariant-loop-k
invariant-loop-k l =
    map pos (take (l.k * l.width) l.samples)
    ≡ band l.width l.rows.start l.k
    (zero_outside l.image.valid (sum_on l.image l.rows.start (row_sums (option_copied l.fn.above))))
