-- 3 x 3 windows of bytes, held in nine rows.
use Rattle.std.specs.Prelude.{ℕ, ℤ, pos, ◌+◌, ◌+ℤ◌, ◌-ℤ◌, ◌*ℤ◌, List, [], ◌∷◌, length, map, slice_index}
use Rattle.std.specs.List.{range_with_len}
use Rattle.lane_rows.specs.declared.nine_rows.Three.{Three}
use Rattle.lane_rows.specs.declared.nine_rows.Nine.{Nine}

-- the items of three rows at one index
abbrev pub three_of : Three → ℕ → ℕ × ℕ × ℕ
three_of rows i =
    (slice_index rows.left.now i, slice_index rows.middle.now i, slice_index rows.right.now i)

-- for each of three rows, the 32 items from an index on
abbrev pub lanes_of : Three → ℕ → List ℕ × List ℕ × List ℕ
lanes_of rows index = (
  map (slice_index rows.left.now) (range_with_len index 32),
  map (slice_index rows.middle.now) (range_with_len index 32),
  map (slice_index rows.right.now) (range_with_len index 32),
)

-- nine bytes in row-major order, as numbers
abbrev pub nine_of : ℕ × ℕ × ℕ → ℕ × ℕ × ℕ → ℕ × ℕ × ℕ → List ℤ
nine_of above here below =
    pos above.0 ∷ pos above.1 ∷ pos above.2
    ∷ pos here.0 ∷ pos here.1 ∷ pos here.2
    ∷ pos below.0 ∷ pos below.1 ∷ pos below.2 ∷ []

-- the items of nine rows at one index: a window
abbrev pub nine_at : Nine → ℕ → List ℤ
nine_at nine i = nine_of (three_of nine.above i) (three_of nine.here i) (three_of nine.below i)

-- the number of windows
abbrev pub window_count : Nine → ℕ
window_count nine = length nine.above.left.now

-- three items of a row, from item i on
abbrev pub three_from : List ℕ → ℕ → ℕ × ℕ × ℕ
three_from row i = (slice_index row i, slice_index row (i + 1), slice_index row (i + 2))

-- the window of three rows, with column i as its left column
abbrev pub nine_from : List ℕ → List ℕ → List ℕ → ℕ → List ℤ
nine_from above here below i = nine_of (three_from above i) (three_from here i) (three_from below i)

-- the weighted sum of `to` minus the weighted sum of `from`, with weights 1, 2, 1
abbrev pub change : ℕ × ℕ × ℕ → ℕ × ℕ × ℕ → ℤ
change from to =
    (pos to.0 -ℤ pos from.0) +ℤ pos 2 *ℤ (pos to.1 -ℤ pos from.1) +ℤ (pos to.2 -ℤ pos from.2)
