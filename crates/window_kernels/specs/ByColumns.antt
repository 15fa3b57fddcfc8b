-- Window functions by columns: down each column of the window, then across the three results. The
-- samples are named a to i in row-major order, so a, d, g is the left column.
use Rattle.std.specs.Prelude.{ℕ, ℤ, ◌≡◌, ◌<◌, [], ◌∷◌, pos, ◌+ℤ◌, ◌-ℤ◌, ◌*ℤ◌}
use Rattle.std.specs.Int.{int_min, int_max, int_div_euclid}
use Rattle.std.proofs.Common.{arith, ap, ◌∙◌}
use Rattle.std.proofs.lemmas.Int.{ints}
use Rattle.vx_base.specs.Window.{least_of, greatest_of, gradient_x, gradient_y, box_mean, gaussian_mean}
use Rattle.lane_rows.specs.Threes.{IsUpTo}

-- `op` is associative, and y and z can be exchanged in (x op y) op (z op u)
module _ (op : ℤ → ℤ → ℤ) (assoc : (x y z : ℤ) → op x (op y z) ≡ op (op x y) z)
    (turned : (x y z u : ℤ) → op (op x y) (op z u) ≡ op (op x z) (op y u)) where
  in_rows : (a b c d e f g h i : ℤ)
      → op (op (op (op a d) g) (op (op b e) h)) (op (op c f) i)
      ≡ op (op (op (op a b) c) (op (op d e) f)) (op (op g h) i)
  in_rows a b c d e f g h i =
      ap (λ z. op z (op (op c f) i))
      (turned (op a d) g (op b e) h ∙ ap (λ z. op z (op g h)) (turned a d b e))
      ∙ turned (op (op a b) (op d e)) (op g h) (op c f) i
      ∙ ap (λ z. op z (op (op g h) i)) (turned (op a b) (op d e) c f)

  one_after_another : (r d e f : ℤ) → op r (op (op d e) f) ≡ op (op (op r d) e) f
  one_after_another r d e f = assoc r (op d e) f ∙ ap (λ z. op z f) (assoc r d e)

  by_columns : (a b c d e f g h i : ℤ)
      → op (op (op (op a d) g) (op (op b e) h)) (op (op c f) i)
      ≡ op (op (op (op (op (op (op (op a b) c) d) e) f) g) h) i
  by_columns a b c d e f g h i =
      in_rows a b c d e f g h i
      ∙ ap (λ z. op z (op (op g h) i)) (one_after_another (op (op a b) c) d e f)
      ∙ one_after_another (op (op (op (op (op a b) c) d) e) f) g h i

-- the least of the least samples of three columns is the least of all nine samples
pub column_least_is_least : (a b c d e f g h i : ℤ)
    → int_min (int_min (int_min (int_min a d) g) (int_min (int_min b e) h))
    (int_min (int_min c f) i)
    ≡ least_of (a ∷ b ∷ c ∷ d ∷ e ∷ f ∷ g ∷ h ∷ i ∷ [])
column_least_is_least = by_columns int_min assoc turned
  where
    assoc : (x y z : ℤ) → int_min x (int_min y z) ≡ int_min (int_min x y) z
    assoc x y z = grind (arith, ints)

    turned : (x y z u : ℤ)
        → int_min (int_min x y) (int_min z u) ≡ int_min (int_min x z) (int_min y u)
    turned x y z u = grind (arith, ints)

-- the greatest of the greatest samples of three columns is the greatest of all nine samples
pub column_greatest_is_greatest : (a b c d e f g h i : ℤ)
    → int_max (int_max (int_max (int_max a d) g) (int_max (int_max b e) h))
    (int_max (int_max c f) i)
    ≡ greatest_of (a ∷ b ∷ c ∷ d ∷ e ∷ f ∷ g ∷ h ∷ i ∷ [])
column_greatest_is_greatest = by_columns int_max assoc turned
  where
    assoc : (x y z : ℤ) → int_max x (int_max y z) ≡ int_max (int_max x y) z
    assoc x y z = grind (arith, ints)

    turned : (x y z u : ℤ)
        → int_max (int_max x y) (int_max z u) ≡ int_max (int_max x z) (int_max y u)
    turned x y z u = grind (arith, ints)

-- the x gradient is the weighted sum of the right column minus that of the left column
pub x_is_x : (a b c d e f g h i : ℤ)
    → (c +ℤ pos 2 *ℤ f +ℤ i) -ℤ (a +ℤ pos 2 *ℤ d +ℤ g)
    ≡ gradient_x (a ∷ b ∷ c ∷ d ∷ e ∷ f ∷ g ∷ h ∷ i ∷ [])
x_is_x a b c d e f g h i = omega (arith, ints)

-- the y gradient is the weighted sum of the differences down three columns
pub y_is_y : (a b c d e f g h i : ℤ)
    → ((g -ℤ a) +ℤ pos 2 *ℤ (h -ℤ b)) +ℤ (i -ℤ c)
    ≡ gradient_y (a ∷ b ∷ c ∷ d ∷ e ∷ f ∷ g ∷ h ∷ i ∷ [])
y_is_y a b c d e f g h i = omega (arith, ints)

-- the mean of nine samples can be computed from the sums of three columns
pub box_is_box : (a b c d e f g h i : ℤ)
    → int_div_euclid ((a +ℤ d +ℤ g) +ℤ (b +ℤ e +ℤ h) +ℤ (c +ℤ f +ℤ i)) (pos 9)
    ≡ box_mean (a ∷ b ∷ c ∷ d ∷ e ∷ f ∷ g ∷ h ∷ i ∷ [])
box_is_box a b c d e f g h i = ap (λ z. int_div_euclid z (pos 9)) (omega (arith, ints))

-- the Gaussian mean can be computed from the weighted sums of three columns
pub gaussian_is_gaussian : (a b c d e f g h i : ℤ)
    → int_div_euclid
    ((a +ℤ pos 2 *ℤ d +ℤ g) +ℤ pos 2 *ℤ (b +ℤ pos 2 *ℤ e +ℤ h) +ℤ (c +ℤ pos 2 *ℤ f +ℤ i))
    (pos 16)
    ≡ gaussian_mean (a ∷ b ∷ c ∷ d ∷ e ∷ f ∷ g ∷ h ∷ i ∷ [])
gaussian_is_gaussian a b c d e f g h i = ap (λ z. int_div_euclid z (pos 16)) (omega (arith, ints))

-- ---- the ranges of the intermediate numbers

-- the function down a column accepts all bytes, and the function across accepts 0 and the result of
-- any column of bytes
pub record AreBytesTaken (down across : ℤ → Type 0) (formula : ℤ → ℤ → ℤ → ℤ) : Type 0 where
  pub bytes : (n : ℕ) → n < 256 → down (pos n)
  pub columns : (a b c : ℕ) → a < 256 → b < 256 → c < 256 → across (formula (pos a) (pos b) (pos c))
  pub zero : across (pos 0)

-- functions that accept all numbers meet `AreBytesTaken`
pub all_taken : {f : ℤ → ℤ → ℤ → ℤ} → AreBytesTaken (λ _. Unit {0}) (λ _. Unit {0}) f
all_taken = record { bytes = λ _ _. tt; columns = λ _ _ _ _ _ _. tt; zero = tt }

-- the sum down a column accepts all bytes, and the mean across accepts the sum of any column of
-- bytes
pub sums_taken : AreBytesTaken (IsUpTo 8191) (IsUpTo 765) (λ a b c. a +ℤ b +ℤ c)
sums_taken =
    record {
      bytes = λ n p. (omega (arith, ints), omega (arith, ints, p));
      columns = λ a b c p q r. (omega (arith, ints), omega (arith, ints, p, q, r));
      zero = (omega (arith, ints), omega (arith, ints));
    }

-- the weighted sum down a column accepts all bytes, and the weighted mean across accepts the
-- weighted sum of any column of bytes
pub weighted_sums_taken : AreBytesTaken (IsUpTo 8191) (IsUpTo 1020) (λ a b c. a +ℤ pos 2 *ℤ b +ℤ c)
weighted_sums_taken =
    record {
      bytes = λ n p. (omega (arith, ints), omega (arith, ints, p));
      columns = λ a b c p q r. (omega (arith, ints), omega (arith, ints, p, q, r));
      zero = (omega (arith, ints), omega (arith, ints));
    }
