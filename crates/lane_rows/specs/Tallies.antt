-- Counts of values.
use Rattle.std.specs.Prelude.{ℕ, ℤ, ◌+◌, ◌==◌, unsigned_abs, List, slice_index}
use Rattle.std.specs.List.{count_by}

-- the number of items equal to v, in a list of bytes
abbrev pub count_at : ℕ → List ℤ → ℕ
count_at v items = count_by (λ z. unsigned_abs z == v) items

-- the sum of the entries for v in four arrays of counts
abbrev pub count_in_all : (first second third fourth : List ℕ) → ℕ → ℕ
count_in_all first second third fourth v =
    ((slice_index first v + slice_index second v) + slice_index third v) + slice_index fourth v
