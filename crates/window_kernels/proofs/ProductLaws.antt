-- Sums of products.
use Rattle.std.proofs.Common.{◌≡◌, ℕ, ℤ, pos, zero, suc, ◌+◌, ◌-◌, ◌*◌, ◌<◌, List, [], ◌∷◌, ◌++◌, get_or, refl, ap, ◌+ℤ◌, ◌∙◌, sym, arith, zero-add, add-one, ◌*ℤ◌}
use Rattle.window_kernels.proofs.Common.{first_of_pair, ints, row_sum, run, second_of_pair, sum_of_first}
use Rattle.vx_base.proofs.TableLaws.{run-more}
use Rattle.vx_base.specs.Window.{total}

plus_assoc : (x y z : ℤ) → x +ℤ (y +ℤ z) ≡ (x +ℤ y) +ℤ z
plus_assoc x y z = omega (arith, ints)

plus_turned : (x y : ℤ) → x +ℤ y ≡ y +ℤ x
plus_turned x y = omega (arith, ints)

pub sum-same : (n : ℕ) (f g : ℕ → ℤ)
    → ((k : ℕ) → k < n → f k ≡ g k)
    → sum_of_first n f ≡ sum_of_first n g
sum-same zero f g same = refl
sum-same (suc n) f g same =
    ap (λ z. z +ℤ f n) (sum-same n f g (λ k h. same k (omega arith)))
    ∙ ap (λ z. sum_of_first n g +ℤ z) (same n (omega arith))

sum_from_first : (n : ℕ) (f : ℕ → ℤ)
    → sum_of_first (suc n) f ≡ f 0 +ℤ sum_of_first n (λ k. f (suc k))
sum_from_first zero f = plus_turned (pos 0) (f 0)
sum_from_first (suc n) f =
    ap (λ z. z +ℤ f (suc n)) (sum_from_first n f)
    ∙ sym (plus_assoc (f 0) (sum_of_first n (λ k. f (suc k))) (f (suc n)))

-- from the last item to the first
pub sum_turned : (n : ℕ) (f : ℕ → ℤ) → sum_of_first n (λ k. f (n - 1 - k)) ≡ sum_of_first n f
sum_turned zero f = refl
sum_turned (suc n) f =
    let first : suc n - 1 - n ≡ 0 = omega arith in
    ap (λ z. z +ℤ f (suc n - 1 - n))
    (sum-same n (λ k. f (suc n - 1 - k)) (λ k. f (suc (n - 1 - k))) (λ k h. ap f (at k h)))
    ∙ ap (λ z. z +ℤ f (suc n - 1 - n)) (sum_turned n (λ k. f (suc k)))
    ∙ ap (λ i. sum_of_first n (λ k. f (suc k)) +ℤ f i) first
    ∙ plus_turned (sum_of_first n (λ k. f (suc k))) (f 0)
    ∙ sym (sum_from_first n f)
  where
    at : (k : ℕ) → k < n → suc n - 1 - k ≡ suc (n - 1 - k)
    at k h = omega arith

total-append : (ys zs : List ℤ) → total (ys ++ zs) ≡ total ys +ℤ total zs
total-append [] zs = omega (arith, ints)
total-append (y ∷ ys) zs = omega (arith, ints, total-append ys zs)

-- the total of a run
pub sum_is_total : (n : ℕ) (f : ℕ → ℤ) → sum_of_first n f ≡ total (run 0 n f)
sum_is_total zero f = refl
sum_is_total (suc n) f =
    let more : total (run 0 (n + 1) f) ≡ total (run 0 n f) +ℤ f n =
    ap total (run-more f 0 n)
    ∙ total-append (run 0 n f) (f (0 + n) ∷ [])
    ∙ ap (λ k. total (run 0 n f) +ℤ (f k +ℤ pos 0)) (zero-add n)
    ∙ omega (arith, ints) in
    ap (λ z. z +ℤ f n) (sum_is_total n f) ∙ sym more ∙ ap (λ k. total (run 0 k f)) (add-one n)

-- what pairs of coefficients add up to
pub pairs_add_up : (row table : List ℤ) (k : ℕ → ℤ) (n p : ℕ)
    → ((j : ℕ) → j < n → first_of_pair table j ≡ k (2 * j))
    → ((j : ℕ) → j < n → second_of_pair table j ≡ k (2 * j + 1))
    → row_sum row table n p ≡ sum_of_first (2 * n) (λ c. get_or row (p + c) (pos 0) *ℤ k c)
pairs_add_up row table k zero p first second = refl
pairs_add_up row table k (suc n) p first second =
    let g : ℕ → ℤ = λ c. get_or row (p + c) (pos 0) *ℤ k c in
    let count : suc (suc (2 * n)) ≡ 2 * suc n = omega arith in
    let before =
    pairs_add_up row table k n p (λ j h. first j (omega arith)) (λ j h. second j (omega arith)) in
    let place : p + 2 * n + 1 ≡ p + suc (2 * n) = omega arith in
    let next : 2 * n + 1 ≡ suc (2 * n) = omega arith in
    let pair :
    row_sum row table (suc n) p ≡ sum_of_first (2 * n) g +ℤ (g (2 * n) +ℤ g (suc (2 * n))) =
    cc (before, first n (omega arith), second n (omega arith), place, next) in
    pair
    ∙ plus_assoc (sum_of_first (2 * n) g) (g (2 * n)) (g (suc (2 * n)))
    ∙ ap (λ m. sum_of_first m g) count
