-- The choice within each row, and then among the rows, gives the least or the greatest of nine
-- numbers.
use Rattle.std.specs.Prelude.{ℕ, ℤ, ◌≡◌, [], ◌∷◌, pos, min, max}
use Rattle.std.specs.Int.{int_min, int_max}
use Rattle.std.proofs.Common.{arith}
use Rattle.vx_base.specs.Window.{least_of, greatest_of}
use Rattle.lane_rows.specs.Ranks.{chosen_of_nine}

-- for an associative operation `lo` on natural numbers that agrees with `op` on integers
module _ (lo : ℕ → ℕ → ℕ) (op : ℤ → ℤ → ℤ)
    (as_number : (x y : ℕ) → pos (lo x y) ≡ op (pos x) (pos y))
    (assoc : (x y z : ℕ) → lo x (lo y z) ≡ lo (lo x y) z) where
  by_rows : (a b c d e f g h i : ℕ)
      → pos (chosen_of_nine lo a b c d e f g h i)
      ≡ op
      (op (op (op (op (op (op (op (pos a) (pos b)) (pos c)) (pos d)) (pos e)) (pos f)) (pos g))
      (pos h))
      (pos i)
  by_rows a b c d e f g h i = simp assoc (simp as_number)

-- the smaller of two natural numbers is also the smaller of them as integers
pub lesser_number : (x y : ℕ) → pos (min x y) ≡ int_min (pos x) (pos y)
lesser_number x y = grind arith

-- the greater of two natural numbers is also the greater of them as integers
pub greater_number : (x y : ℕ) → pos (max x y) ≡ int_max (pos x) (pos y)
greater_number x y = grind arith

-- choosing the least within each row, and then among the rows, gives the least of all nine numbers
pub least_is_least : (a b c d e f g h i : ℕ)
    → pos (chosen_of_nine min a b c d e f g h i)
    ≡ least_of (pos a ∷ pos b ∷ pos c ∷ pos d ∷ pos e ∷ pos f ∷ pos g ∷ pos h ∷ pos i ∷ [])
least_is_least = by_rows min int_min lesser_number (λ x y z. grind arith)

-- choosing the greatest within each row, and then among the rows, gives the greatest of all nine
-- numbers
pub greatest_is_greatest : (a b c d e f g h i : ℕ)
    → pos (chosen_of_nine max a b c d e f g h i)
    ≡ greatest_of (pos a ∷ pos b ∷ pos c ∷ pos d ∷ pos e ∷ pos f ∷ pos g ∷ pos h ∷ pos i ∷ [])
greatest_is_greatest = by_rows max int_max greater_number (λ x y z. grind arith)
