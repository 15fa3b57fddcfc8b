-- Rows of numbers from 0 to a limit, which are summed in threes.
use Rattle.std.specs.Prelude.{ℕ, ℤ, pos, ◌≤ℤ◌, List, [], ◌∷◌, map, slice_index_or}
use Rattle.lane_rows.specs.declared.nine_rows.Three.{Three}

-- between 0 and the limit
abbrev pub IsUpTo : ℕ → ℤ → Type 0
IsUpTo limit z = (pos 0 ≤ℤ z) × (z ≤ℤ pos limit)

-- the number at an index of a row, or 0 after the row's end
abbrev pub number_at : List ℤ → ℕ → ℤ
number_at row i = slice_index_or row i (pos 0)

-- a kernel accepts each number of a row, and 0
abbrev pub AreTaken : (ℤ → Type 0) → List ℤ → Type 0
AreTaken takes row = (i : ℕ) → takes (number_at row i)

-- each number of a row is between 0 and the limit
abbrev pub AreUpTo : ℕ → List ℤ → Type 0
AreUpTo limit row = AreTaken (IsUpTo limit) row

-- the results of a function of three numbers, at each index of three rows
abbrev pub zip3 : {A B : Type 0} → (A → A → A → B) → List A → List A → List A → List B
zip3 f (x ∷ xs) (y ∷ ys) (z ∷ zs) = f x y z ∷ zip3 f xs ys zs
zip3 f xs ys zs = []

-- the number that `op` chooses from the three bytes at an index of three rows
abbrev pub chosen_at : (ℤ → ℤ → ℤ) → Three → ℕ → ℤ
chosen_at op rows i =
    op (op (number_at (map pos rows.left.now) i) (number_at (map pos rows.middle.now) i))
    (number_at (map pos rows.right.now) i)
