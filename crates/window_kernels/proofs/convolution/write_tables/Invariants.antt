use Rattle.std.proofs.Common.{◌≡◌, ◌*◌, take, w16, FitsSigned}
use Rattle.window_kernels.proofs.Common.{Each1}
use Rattle.window_kernels.proofs.MatrixLaws.{pairs_to}
use Rattle.window_kernels.proofs.convolution.write_tables.Given as goal

abbrev pub invariant-loop-k : goal.invariant-loop-k
invariant-loop-k l = record {
  value : take (16 * l.k) l.tables ≡ pairs_to l.convolution l.k;
  fits : Each1 (FitsSigned w16) (take (16 * l.k) l.tables);
}
