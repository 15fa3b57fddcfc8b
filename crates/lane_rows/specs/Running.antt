-- Running sums of a row, added to the sums of the row above.
use Rattle.std.specs.Prelude.{ℕ, ◌+◌, ◌%◌, ◌^◌, List, length, map, slice_index, take}
use Rattle.std.specs.List.{sum, range_with_len}

-- the item of `above` at index k plus the row's items up to and including index k, modulo 2 ^ 32
abbrev pub sum_below : (above row : List ℕ) → ℕ → ℕ
sum_below above row k = (slice_index above k + sum (take (k + 1) row)) % 2 ^ 32

-- `sum_below` at all indices of the row
abbrev pub sums_below : (above row : List ℕ) → List ℕ
sums_below above row = map (sum_below above row) (range_with_len 0 (length row))
