use Rattle.std.proofs.Common.{◌≡◌, map, pos}
use Rattle.stat_kernels.proofs.Common.{sums_row}
use Rattle.stat_kernels.proofs.sums.write_row_from_top.Given as goal

abbrev pub invariant-loop-line : goal.invariant-loop-line
invariant-loop-line l = map pos l.out ≡ sums_row l.image l.line
