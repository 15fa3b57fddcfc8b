use Rattle.std.proofs.Common.{ℕ, ℤ, ◌<◌, slice_index_or}
use Rattle.vx_base.proofs.Common.{S16, IsSample}
use Rattle.vx_base.proofs.samples.prove_shorts.Given as goal

abbrev pub invariant-loop-sample : goal.invariant-loop-sample
invariant-loop-sample l =
    (k : ℕ) (d : ℤ) → k < l.sample-index → IsSample S16 (slice_index_or l.samples k d)
