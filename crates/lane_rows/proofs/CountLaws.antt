-- The number of samples in a list that equal an item.
use Rattle.std.proofs.Common.{◌≡◌, ℕ, ℤ, pos, ◌+◌, ◌-◌, ◌%◌, ◌^◌, ◌≤◌, List, [], ◌∷◌, ◌++◌, length, map, take, cond, true, false, eqb, replicate, ap, ◌∙◌, sym, refl, arith, rules, inl, inr, to_z, of_z, w8, w16, FitsSigned, count_by, slice_range, eq-eqb, ne_eqb, map-id}
use Rattle.lane_rows.proofs.Common.{Each1, Width, cases_Bool, cases_eq, fold, int_eq, int_max, int_min, ints, length-map, ones, take-map, to_z-of_z, top, zip2, sum_by-append, sum_by-cons, count_by-le-length, best_of, count_of, common_steps, Each1-all}
use Rattle.std.proofs.lemmas.Bool.Decides.{Decides-int_eq}
use Rattle.lane_rows.proofs.BlockLaws.{block_read}
use Rattle.std.proofs.lemmas.Simd.{Each1-weaker, bitmask_splat, ones-mask_l}
use mir.Val.{bits, hbits}
use lib.Lanes.{mask_l}

pub eq_from_test : (w z : ℤ) → int_eq w z ≡ true → w ≡ z
eq_from_test w z h = (Decides-int_eq w z).0 h

pub test_same : (z : ℤ) → int_eq z z ≡ true
test_same z = (Decides-int_eq z z).1 refl

pub test_other : (w z : ℤ) → (w ≡ z → ⊥) → int_eq w z ≡ false
test_other w z other = elim (cases_Bool (int_eq w z)) [
  | inl holds ↦ absurd (other (eq_from_test w z holds))
  | inr fails ↦ fails
]

-- the samples of two lists are counted
pub both_counted : (v : ℤ) (xs ys : List ℤ) → count_of v (xs ++ ys) ≡ count_of v xs + count_of v ys
both_counted v xs ys = sum_by-append (λ s. cond (int_eq s v) 1 0) xs ys

-- a count is at most the number of samples
pub count_fits : (v : ℤ) (xs : List ℤ) → count_of v xs ≤ length xs
count_fits v xs = count_by-le-length (λ s. int_eq s v) xs

pub ruleset counts = (common_steps, block_read, both_counted, count_fits, take-map)

-- no sample before an index
pub none_of_first : (v : ℤ) (ws : List ℤ) (i : ℕ)
    → count_of v (slice_range ws 0 i) ≡ 0
    → count_of v (take i ws) ≡ 0
none_of_first v ws i none =
    let e : i ≡ i - 0 = omega arith in ap (λ j. count_of v (take j ws)) e ∙ none

-- ---- in lanes: items that equal one of them, counted by their bits

-- the lanes that equal a number, as bits of a mask; `high` is a lane's sign bit, and `full` a lane
-- of ones
abbrev mask : (high full code : ℕ) → List ℕ → ℕ
mask high full code xs =
    mask_l (map (top high) (zip2 (λ a b. cond (eqb a b) full 0) xs (replicate 32 code)))

coded : {A : Type 0} (w : Width) (value : A → ℤ) (code : A → ℕ) (v : A) (xs : List A)
    → length xs ≡ 32
    → Each1 (λ x. eqb (code x) (code v) ≡ int_eq (value x) (value v)) xs
    → ones (mask (hbits w) (2 ^ bits w - 1) (code v) (map code xs) % 2 ^ 64)
    ≡ count_of (value v) (map value xs)
coded {A} w value code v xs long same =
    ap ones
    (bitmask_splat w eqb (map code xs) 32 (code v) (length-map xs code ∙ long) (omega arith))
    ∙ ones-mask_l (λ n. eqb n (code v)) (map code xs)
    ∙ counted xs same
  where
    counted : (xs : List A)
        → Each1 (λ x. eqb (code x) (code v) ≡ int_eq (value x) (value v)) xs
        → count_by (λ n. eqb n (code v)) (map code xs) ≡ count_of (value v) (map value xs)
    counted [] same = refl
    counted (x ∷ xs) same =
        let one = ap (λ b. let n : ℕ = cond b 1 0 in n) same.0 in
        let rest = counted xs same.1 in
        omega (
          arith,
          one,
          rest,
          sum_by-cons (λ n. cond (eqb n (code v)) 1 0) (code x) (map code xs),
          sum_by-cons (λ s. cond (int_eq s (value v)) 1 0) (value x) (map value xs),
        )

pub bytes_counted : (v : ℕ) (xs : List ℕ)
    → length xs ≡ 32
    → ones (mask 7 255 v xs % 2 ^ 64) ≡ count_of (pos v) (map pos xs)
bytes_counted v xs long =
    let same : (x : ℕ) → eqb x v ≡ int_eq (pos x) (pos v) = λ x. search (rules, ints) in
    ap (λ l. ones (mask 7 255 v l % 2 ^ 64)) (sym (map-id xs))
    ∙ coded w8 pos (λ x. x) v xs long (Each1-all (λ x. eqb x v ≡ int_eq (pos x) (pos v)) same xs)

same_bits : (z v : ℤ)
    → FitsSigned w16 z
    → FitsSigned w16 v
    → eqb (of_z w16 z) (of_z w16 v) ≡ int_eq z v
same_bits z v fits v_fits = elim (cases_eq (of_z w16 z) (of_z w16 v)) [
  | inl same ↦ (
      let equal : z ≡ v =
      sym (to_z-of_z w16 z fits) ∙ ap (to_z w16) same ∙ to_z-of_z w16 v v_fits in
      eq-eqb (of_z w16 z) (of_z w16 v) same ∙ sym (ap (λ w. int_eq w v) equal ∙ test_same v))
  | inr other ↦
      ne_eqb (of_z w16 z) (of_z w16 v) other
      ∙ sym (test_other z v (λ equal. other (ap (of_z w16) equal)))
]

pub shorts_counted : (v : ℤ) (zs : List ℤ)
    → length zs ≡ 32
    → FitsSigned w16 v
    → Each1 (FitsSigned w16) zs
    → ones (mask 15 65535 (of_z w16 v) (map (of_z w16) zs) % 2 ^ 64) ≡ count_of v (map (λ z. z) zs)
shorts_counted v zs long v_fits fits =
    coded w16 (λ z. z) (of_z w16) v zs long
    (Each1-weaker (FitsSigned w16) (λ z. eqb (of_z w16 z) (of_z w16 v) ≡ int_eq z v)
    (λ z p. same_bits z v p v_fits) zs fits)
