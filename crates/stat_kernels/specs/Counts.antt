-- Sums of histograms.
use Rattle.std.specs.Prelude.{ℕ, ◌+◌, List, length, map, slice_index}
use Rattle.std.specs.List.{range_with_len}

-- the sum of two histograms, bin by bin
abbrev pub bin_sums : List ℕ → List ℕ → List ℕ
bin_sums counts more =
    map (λ k. slice_index counts k + slice_index more k) (range_with_len 0 (length counts))
