use Rattle.stat_kernels.proofs.Common.{valid_samples, valid_in}
use Rattle.stat_kernels.proofs.TallyLaws.{AreCounted}
use Rattle.stat_kernels.proofs.counts.add_histogram.Given as goal

abbrev pub invariant-loop-value : goal.invariant-loop-value
invariant-loop-value l =
    AreCounted l.bins (valid_samples (valid_in l.fn.rows l.image)) l.fn.counts l.value l.counts
