use Rattle.std.proofs.Common.{◌≡◌, ◌<◌, ℕ, unsigned_abs}
use Rattle.stat_kernels.proofs.Common.{All, valid_samples, count_at, count_in_all, valid_in}
use Rattle.stat_kernels.proofs.BandLaws.{rows_at}
use Rattle.stat_kernels.proofs.counts.count_values.Given as goal

abbrev pub invariant-loop-k : goal.invariant-loop-k
invariant-loop-k l =
    record {
      counted : (v : ℕ)
          → count_in_all l.first l.second l.third l.fourth v
          ≡ count_at v (valid_samples (valid_in (rows_at l.rows.start l.k) l.image));
      bytes :
          All (λ z. unsigned_abs z < 256)
          (valid_samples (valid_in (rows_at l.rows.start l.k) l.image));
    }
