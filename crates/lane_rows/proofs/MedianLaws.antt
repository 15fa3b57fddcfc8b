-- The median of nine.
use Rattle.std.proofs.Common.{◌≡◌, ℕ, ℤ, pos, ◌+◌, ◌<◌, ◌≤◌, ◌<ℤ◌, Bool, true, false, ◌&&◌, ◌||◌, List, [], ◌∷◌, length, nat_le, min, max, refl, ap, ◌∙◌, sym, arith, leb-true, le-leb, cond, zero, suc, subst, int_lt, int_le, unwrap_or, Some, Contains, inl, inr}
use Rattle.lane_rows.proofs.Common.{ints}
use Rattle.std.specs.Int.{int_min, int_max}
use Rattle.std.specs.List.{count_by, find}
use Rattle.std.proofs.lemmas.Int.{by_lt_z}
use Rattle.std.proofs.lemmas.Bool.{cases_Bool}
use Rattle.std.proofs.lemmas.List.Sums.{sum_by-cons}
use Rattle.vx_base.specs.Window.{is_middle, median}
use Rattle.lane_rows.specs.Ranks.{middle_of_nine}

-- a function that commutes with the lesser and the greater of two
record Splits {A B : Type 0} (t : A → B) (lo hi : A → A → A) (low high : B → B → B) : Type 0 where
  pub lesser : (x y : A) → t (lo x y) ≡ low (t x) (t y)
  pub greater : (x y : A) → t (hi x y) ≡ high (t x) (t y)

through : {A B : Type 0} (t : A → B) (lo hi : A → A → A) (low high : B → B → B)
    → Splits t lo hi low high
    → (a b c d e f g h i : A)
    → t (middle_of_nine lo hi a b c d e f g h i)
    ≡ middle_of_nine low high (t a) (t b) (t c) (t d) (t e) (t f) (t g) (t h) (t i)
through t lo hi low high s a b c d e f g h i = simp (s.lesser, s.greater)

at_least : (v : ℤ) → Splits (int_le v) int_min int_max ◌&&◌ ◌||◌
at_least v = record { lesser = λ x y. grind (arith, ints); greater = λ x y. grind (arith, ints) }

above : (v : ℤ) → Splits (int_lt v) int_min int_max ◌&&◌ ◌||◌
above v = record { lesser = λ x y. grind (arith, ints); greater = λ x y. grind (arith, ints) }

as_numbers : Splits pos min max int_min int_max
as_numbers = record { lesser = λ x y. grind arith; greater = λ x y. grind arith }

-- ---- five of nine

-- how many are true
abbrev one : Bool → ℕ
one b = cond b 1 0

abbrev ones : Bool → Bool → Bool → Bool → Bool → Bool → Bool → Bool → Bool → ℕ
ones a b c d e f g h i = one a + one b + one c + one d + one e + one f + one g + one h + one i

-- a true middle has five true ones, and a false one at most four
abbrev agrees : Bool → Bool → Bool → Bool → Bool → Bool → Bool → Bool → Bool → Bool
agrees a b c d e f g h i =
    cond (middle_of_nine ◌&&◌ ◌||◌ a b c d e f g h i) (nat_le 5 (ones a b c d e f g h i))
    (nat_le (ones a b c d e f g h i) 4)

both_true : (p q : Bool) → (p && q) ≡ true → (p ≡ true) × (q ≡ true)
both_true true q h = (refl, h)
both_true false q h = (cc, cc)

-- a test of all lists of this length
abbrev of_all : ℕ → (List Bool → Bool) → Bool
of_all zero q = q []
of_all (suc n) q = of_all n (λ l. q (true ∷ l)) && of_all n (λ l. q (false ∷ l))

from_all : (n : ℕ) (q : List Bool → Bool)
    → of_all n q ≡ true
    → (l : List Bool)
    → length l ≡ n
    → q l ≡ true
from_all zero q h [] long = h
from_all zero q h (b ∷ l) long = absurd (omega (arith, long))
from_all (suc n) q h [] long = absurd (omega (arith, long))
from_all (suc n) q h (true ∷ l) long =
    from_all n (λ l. q (true ∷ l))
    ((both_true (of_all n (λ l. q (true ∷ l))) (of_all n (λ l. q (false ∷ l))) h).0) l
    (omega (arith, long))
from_all (suc n) q h (false ∷ l) long =
    from_all n (λ l. q (false ∷ l))
    ((both_true (of_all n (λ l. q (true ∷ l))) (of_all n (λ l. q (false ∷ l))) h).1) l
    (omega (arith, long))

abbrev nine_agree : List Bool → Bool
nine_agree (a ∷ b ∷ c ∷ d ∷ e ∷ f ∷ g ∷ h ∷ i ∷ []) = agrees a b c d e f g h i
nine_agree l = true

agree : (a b c d e f g h i : Bool) → agrees a b c d e f g h i ≡ true
agree a b c d e f g h i = from_all 9 nine_agree refl (a ∷ b ∷ c ∷ d ∷ e ∷ f ∷ g ∷ h ∷ i ∷ []) refl

one_or_other : (x v : ℤ) → one (int_lt x v) + one (int_le v x) ≡ 1
one_or_other x v = grind (arith, ints)

counted : (p : ℤ → Bool) (z : ℤ) (zs : List ℤ) → count_by p (z ∷ zs) ≡ one (p z) + count_by p zs
counted p z zs = sum_by-cons (λ x. cond (p x) 1 0) z zs

below_or_not : (v : ℤ) (zs : List ℤ)
    → count_by (λ z. int_lt z v) zs + count_by (λ z. int_le v z) zs ≡ length zs
below_or_not v [] = refl
below_or_not v (z ∷ zs) =
    omega (
      arith,
      counted (λ z. int_lt z v) z zs,
      counted (λ z. int_le v z) z zs,
      one_or_other z v,
      below_or_not v zs,
    )

-- ---- a number in the middle

-- at most four of the numbers are smaller, and at most four are greater
pub record IsMiddle (zs : List ℤ) (v : ℤ) : Type 0 where
  pub fewer : count_by (λ z. int_lt z v) zs ≤ 4
  pub more : count_by (λ z. int_lt v z) zs ≤ 4

-- the result of the minima and maxima is a median
middle_is_middle : (a b c d e f g h i : ℤ)
    → IsMiddle (a ∷ b ∷ c ∷ d ∷ e ∷ f ∷ g ∷ h ∷ i ∷ [])
    (middle_of_nine int_min int_max a b c d e f g h i)
middle_is_middle a b c d e f g h i = known (middle_of_nine int_min int_max a b c d e f g h i) refl
  where
    known : (v : ℤ)
        → middle_of_nine int_min int_max a b c d e f g h i ≡ v
        → IsMiddle (a ∷ b ∷ c ∷ d ∷ e ∷ f ∷ g ∷ h ∷ i ∷ []) v
    known v is =
        let zs = a ∷ b ∷ c ∷ d ∷ e ∷ f ∷ g ∷ h ∷ i ∷ [] in
        let itself : int_le v v ≡ true = grind (arith, ints) in
        let not_above : int_lt v v ≡ false = grind (arith, ints) in
        let low =
        sym (through (int_le v) int_min int_max ◌&&◌ ◌||◌ (at_least v) a b c d e f g h i)
        ∙ ap (int_le v) is
        ∙ itself in
        let high =
        sym (through (int_lt v) int_min int_max ◌&&◌ ◌||◌ (above v) a b c d e f g h i)
        ∙ ap (int_lt v) is
        ∙ not_above in
        let five =
        rw low at
        (agree (int_le v a) (int_le v b) (int_le v c) (int_le v d) (int_le v e) (int_le v f)
        (int_le v g) (int_le v h) (int_le v i))
        in
        let four =
        rw high at
        (agree (int_lt v a) (int_lt v b) (int_lt v c) (int_lt v d) (int_lt v e) (int_lt v f)
        (int_lt v g) (int_lt v h) (int_lt v i))
        in
        record {
          fewer = omega (arith, leb-true 5 _ five, below_or_not v zs);
          more = omega (arith, leb-true _ 4 four);
        }

-- ---- there is one

-- for v < w, each number is above v or below w
apart : (v w z : ℤ) → v <ℤ w → 1 ≤ one (int_lt z w) + one (int_lt v z)
apart v w z h = grind (arith, ints)

all_counted : (v w : ℤ) (zs : List ℤ)
    → v <ℤ w
    → length zs ≤ count_by (λ z. int_lt z w) zs + count_by (λ z. int_lt v z) zs
all_counted v w [] h = omega arith
all_counted v w (z ∷ zs) h =
    omega (
      arith,
      counted (λ z. int_lt z w) z zs,
      counted (λ z. int_lt v z) z zs,
      apart v w z h,
      all_counted v w zs h,
    )

same_middle : (zs : List ℤ) (v w : ℤ) → 9 ≤ length zs → IsMiddle zs v → IsMiddle zs w → v ≡ w
same_middle zs v w long a b =
    by_lt_z v w
    (λ h. absurd (omega (arith, all_counted v w zs h, a.more, b.fewer)))
    (λ h. by_lt_z w v (λ k. absurd (omega (arith, all_counted w v zs k, b.more, a.fewer)))
    (λ k. omega (arith, ints)))

is_middle_test : (zs : List ℤ) (v : ℤ) → IsMiddle zs v → is_middle zs v ≡ true
is_middle_test zs v h = rw (le-leb _ 4 h.fewer, le-leb _ 4 h.more) refl

from_middle_test : (zs : List ℤ) (v : ℤ) → is_middle zs v ≡ true → IsMiddle zs v
from_middle_test zs v h =
    let p =
    both_true (nat_le (count_by (λ z. int_lt z v) zs) 4)
    (nat_le (count_by (λ z. int_lt v z) zs) 4) h in
    record { fewer = leb-true _ 4 p.0; more = leb-true _ 4 p.1 }

-- another number is below or above
other_counted : (z v : ℤ) → (z ≡ v → ⊥) → 1 ≤ one (int_lt z v) + one (int_lt v z)
other_counted z v other = grind (arith, ints)

-- the first of the numbers that is in the middle is the one that is
found : (p : ℤ → Bool) (v : ℤ) (zs : List ℤ)
    → p v ≡ true
    → ((z : ℤ) → p z ≡ true → z ≡ v)
    → count_by (λ z. int_lt z v) zs + count_by (λ z. int_lt v z) zs < length zs
    → find p zs ≡ Some v
found p v [] is unique room = absurd (omega arith)
found p v (z ∷ zs) is unique room = elim (cases_Bool (p z)) [
  | inl here ↦ rw here (ap Some (unique z here))
  | inr fails ↦ (
      let other = other_counted z v (λ same. let here : p z ≡ true = ap p same ∙ is in cc) in
      rw fails
      (found p v zs is unique
      (omega (arith, counted (λ z. int_lt z v) z zs, counted (λ z. int_lt v z) z zs, other, room))))
]

found_middle : (zs : List ℤ) (v : ℤ)
    → length zs ≡ 9
    → IsMiddle zs v
    → find (is_middle zs) zs ≡ Some v
found_middle zs v long h =
    found (is_middle zs) v zs (is_middle_test zs v h)
    (λ z e. same_middle zs z v (omega arith) (from_middle_test zs z e) h)
    (omega (arith, h.fewer, h.more))

-- of nine numbers the one in the middle is the median
pub median_is : (zs : List ℤ) (v : ℤ) → length zs ≡ 9 → IsMiddle zs v → median zs ≡ v
median_is zs v long h = ap (λ o. unwrap_or o (pos 0)) (found_middle zs v long h)

-- a number that is found is among those that were looked through
among : (p : ℤ → Bool) (v : ℤ) (zs : List ℤ) → find p zs ≡ Some v → Contains zs v
among p v [] e = cc
among p v (z ∷ zs) e = elim (cases_Bool (p z)) [
  | inl here ↦ (let same : z ≡ v = cc (rw here at e) in (0, omega arith, same))
  | inr fails ↦ (let k = among p v zs (rw fails at e) in (suc k.0, omega (arith, k.1), k.2))
]

pub median_of_nine : (a b c d e f g h i : ℤ)
    → median (a ∷ b ∷ c ∷ d ∷ e ∷ f ∷ g ∷ h ∷ i ∷ [])
    ≡ middle_of_nine int_min int_max a b c d e f g h i
median_of_nine a b c d e f g h i =
    median_is (a ∷ b ∷ c ∷ d ∷ e ∷ f ∷ g ∷ h ∷ i ∷ [])
    (middle_of_nine int_min int_max a b c d e f g h i) refl (middle_is_middle a b c d e f g h i)

pub median_is_middle : (a b c d e f g h i : ℤ)
    → IsMiddle (a ∷ b ∷ c ∷ d ∷ e ∷ f ∷ g ∷ h ∷ i ∷ [])
    (median (a ∷ b ∷ c ∷ d ∷ e ∷ f ∷ g ∷ h ∷ i ∷ []))
median_is_middle a b c d e f g h i =
    subst (IsMiddle (a ∷ b ∷ c ∷ d ∷ e ∷ f ∷ g ∷ h ∷ i ∷ []))
    (sym (median_of_nine a b c d e f g h i)) (middle_is_middle a b c d e f g h i)

pub median_is_among : (a b c d e f g h i : ℤ)
    → Contains (a ∷ b ∷ c ∷ d ∷ e ∷ f ∷ g ∷ h ∷ i ∷ [])
    (median (a ∷ b ∷ c ∷ d ∷ e ∷ f ∷ g ∷ h ∷ i ∷ []))
median_is_among a b c d e f g h i =
    let zs = a ∷ b ∷ c ∷ d ∷ e ∷ f ∷ g ∷ h ∷ i ∷ [] in
    among (is_middle zs) (median zs) zs
    (found_middle zs (median zs) refl (median_is_middle a b c d e f g h i))

-- of numbers from 0 on
pub median_of_numbers : (a b c d e f g h i : ℕ)
    → pos (middle_of_nine min max a b c d e f g h i)
    ≡ median (pos a ∷ pos b ∷ pos c ∷ pos d ∷ pos e ∷ pos f ∷ pos g ∷ pos h ∷ pos i ∷ [])
median_of_numbers a b c d e f g h i =
    through pos min max int_min int_max as_numbers a b c d e f g h i
    ∙ sym (median_of_nine (pos a) (pos b) (pos c) (pos d) (pos e) (pos f) (pos g) (pos h) (pos i))
