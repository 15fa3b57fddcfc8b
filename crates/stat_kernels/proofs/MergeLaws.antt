-- Extremes of pixels, merged with those of later pixels.
use Rattle.std.proofs.Common.{zero, suc, ◌≡◌, ℕ, ℤ, ◌+◌, ◌<◌, ◌≤◌, List, [], ◌∷◌, ◌++◌, length, map, cond, Bool, true, false, inl, inr, ap, ◌∙◌, sym, refl, arith, int_lt, to_z, of_z, w16, FitsSigned}
use Rattle.stat_kernels.proofs.Common.{fold, int_eq, int_min, int_max, cases_Bool, cases_eq, ints, to_z-of_z, length-map, sum_by-cons, count_by-le-length, nat_tests, map-map, range_with_len, run, row_pixels, best_of, count_of, first_of, found_in, Found, extreme_among, merge_found, shift_found}
use Rattle.stat_kernels.specs.declared.extreme.Extreme.{Extreme}
use Rattle.lane_rows.proofs.CountLaws.{eq_from_test, test_same, test_other}
use Rattle.stat_kernels.specs.Extreme.{shift_down, merge}

-- `choose` takes the sample that is beyond the other one, by the strict order `beyond`
pub record IsDirection (choose : ℤ → ℤ → ℤ) (beyond : ℤ → ℤ → Bool) : Type 0 where
  pub takes : (v z : ℤ) → beyond z v ≡ true → choose v z ≡ z
  pub keeps : (v z : ℤ) → beyond z v ≡ false → choose v z ≡ v
  pub irreflexive : (z : ℤ) → beyond z z ≡ false
  pub total : (z v : ℤ) → beyond z v ≡ false → (z ≡ v → ⊥) → beyond v z ≡ true
  pub associative : (v z w : ℤ) → choose (choose v z) w ≡ choose v (choose z w)
  pub transitive : (w z v : ℤ) → beyond w z ≡ true → beyond z v ≡ true → beyond w v ≡ true

pub downwards : IsDirection int_min int_lt
downwards = grind (arith, ints)

pub upwards : IsDirection int_max (λ z v. int_lt v z)
upwards = grind (arith, ints)

abbrev pub samples : (f : ℕ → ℕ → ℤ) → List (ℕ × ℕ) → List ℤ
samples f ps = map (λ p. f p.0 p.1) ps

-- the extreme of one pixel
abbrev one : (f : ℕ → ℕ → ℤ) → ℕ × ℕ → Extreme
one f p = record { value = f p.0 p.1; count = 1; at = p }

count_cons : (v a : ℤ) (zs : List ℤ) → count_of v (a ∷ zs) ≡ cond (int_eq a v) 1 0 + count_of v zs
count_cons v a zs = sum_by-cons (λ s. cond (int_eq s v) 1 0) a zs

shift_merge : (beyond : ℤ → ℤ → Bool) (down : ℕ) (a b : Extreme)
    → shift_down down (merge beyond a b) ≡ merge beyond (shift_down down a) (shift_down down b)
shift_merge beyond down a b = grind arith

module _ (choose : ℤ → ℤ → ℤ) (beyond : ℤ → ℤ → Bool) (d : IsDirection choose beyond) where
  merge_assoc : (a b c : Extreme)
      → merge beyond (merge beyond a b) c ≡ merge beyond a (merge beyond b c)
  merge_assoc a b c = elim (cases_eq c.count 0) [
    | inl none ↦ rw none refl
    | inr some ↦ elim (cases_eq b.count 0) [
      | inl none ↦ grind (arith, nat_tests)
      | inr more ↦ elim (cases_Bool (beyond b.value a.value)) [
        | inl is ↦ grind (arith, nat_tests, eq_from_test, d.transitive c.value b.value a.value)
        | inr not ↦
            let first = d.transitive a.value b.value c.value in
            grind (
              arith,
              nat_tests,
              cases_Bool (int_eq b.value a.value),
              eq_from_test b.value a.value,
              eq_from_test c.value b.value,
              eq_from_test c.value a.value,
              test_same a.value,
              test_same b.value,
              first,
              d.total b.value a.value not,
              d.total c.value b.value,
              d.transitive c.value a.value c.value,
              d.irreflexive c.value,
            )
      ]
    ]
  ]

  fold_joined : (a z : ℤ) (zs : List ℤ) → fold choose (choose a z) zs ≡ choose a (fold choose z zs)
  fold_joined a z [] = refl
  fold_joined a z (w ∷ zs) =
      ap (λ b. fold choose b zs) (d.associative a z w) ∙ fold_joined a (choose z w) zs

  -- the sample that is chosen is one of them
  fold_counted : (a : ℤ) (zs : List ℤ) → 0 < count_of (fold choose a zs) (a ∷ zs)
  fold_counted a [] = grind (arith, count_cons a a [], test_same a)
  fold_counted a (z ∷ zs) =
      let v = fold choose (choose a z) zs in
      grind (
        arith,
        fold_counted (choose a z) zs,
        cases_Bool (beyond z a),
        d.takes a z,
        d.keeps a z,
        count_cons v a (z ∷ zs),
        count_cons v z zs,
        count_cons v (choose a z) zs,
      )

  chosen_among : (zs : List ℤ) (v : ℤ) → 0 < length zs → v ≡ best_of choose zs → 0 < count_of v zs
  chosen_among [] v some is = absurd (omega (arith, some))
  chosen_among (a ∷ zs) v some is =
      omega (arith, fold_counted a zs, ap (λ w. count_of w (a ∷ zs)) is)

  -- a sample beyond the one that is chosen is none of them
  count_beyond : (z : ℤ) (zs : List ℤ) → beyond z (best_of choose zs) ≡ true → count_of z zs ≡ 0
  count_beyond z [] is = refl
  count_beyond z (a ∷ []) is =
      grind (arith, count_cons z a [], test_other a z (λ e. cc (is, e, d.irreflexive z)))
  count_beyond z (a ∷ w ∷ zs) is =
      let v = fold choose w zs in
      let both : (beyond z a ≡ true) × (beyond z v ≡ true) =
      grind (
        arith,
        eq_from_test v a,
        fold_joined a w zs,
        is,
        cases_Bool (beyond v a),
        cases_Bool (int_eq v a),
        d.takes a v,
        d.keeps a v,
        d.total v a,
        test_same a,
        d.transitive z v a,
        d.transitive z a v,
      ) in
      grind (
        arith,
        count_cons z a (w ∷ zs),
        test_other a z (λ e. cc (both.0, e, d.irreflexive z)),
        count_beyond z (w ∷ zs) both.1,
      )

  module _ (f : ℕ → ℕ → ℤ) where
    extreme_at : (ps : List (ℕ × ℕ)) (v : ℤ)
        → best_of choose (samples f ps) ≡ v
        → extreme_among choose f ps
        ≡ record { value = v; count = count_of v (samples f ps); at = first_of f v ps }
    extreme_at ps v is = rw is refl

    -- one more pixel, before the others
    extreme_cons : (p : ℕ × ℕ) (ps : List (ℕ × ℕ))
        → extreme_among choose f (p ∷ ps) ≡ merge beyond (one f p) (extreme_among choose f ps)
    extreme_cons p [] = grind (arith, count_cons (f p.0 p.1) (f p.0 p.1) [], test_same (f p.0 p.1))
    extreme_cons p (q ∷ ps) =
        let z = f p.0 p.1 in
        let zs = samples f (q ∷ ps) in
        let v = best_of choose zs in
        let some = fold_counted (f q.0 q.1) (samples f ps) in
        let joined : best_of choose (z ∷ zs) ≡ choose z v =
        fold_joined z (f q.0 q.1) (samples f ps) in
        elim (cases_Bool (beyond v z)) [
          | inl is ↦
              let other = test_other z v (λ e. cc (is, e, d.irreflexive z)) in
              extreme_at (p ∷ q ∷ ps) v (joined ∙ d.takes z v is)
              ∙ grind (arith, nat_tests, some, count_cons v z zs)
          | inr not ↦
              extreme_at (p ∷ q ∷ ps) z (joined ∙ d.keeps z v not)
              ∙ grind (
                arith,
                nat_tests,
                some,
                count_cons z z zs,
                test_same z,
                cases_Bool (int_eq v z),
                eq_from_test v z,
                d.total v z not,
                count_beyond z zs,
              )
        ]

    pub extremes_joined : (ps qs : List (ℕ × ℕ))
        → merge beyond (extreme_among choose f ps) (extreme_among choose f qs)
        ≡ extreme_among choose f (ps ++ qs)
    extremes_joined [] [] = refl
    extremes_joined [] (q ∷ qs) = grind (arith, nat_tests, fold_counted (f q.0 q.1) (samples f qs))
    extremes_joined (p ∷ ps) qs =
        cc (
          extreme_cons p ps,
          merge_assoc (one f p) (extreme_among choose f ps) (extreme_among choose f qs),
          extremes_joined ps qs,
          extreme_cons p (ps ++ qs),
        )

  -- merging the extreme of a lower row with the same samples equals merging the extreme moved down
  extreme_lowered : (f g : ℕ → ℕ → ℤ) (down : ℕ) (a : Extreme) (x n y : ℕ)
      → run x n (λ k. f k y) ≡ run x n (λ k. g k (y + down))
      → merge beyond a (extreme_among choose g (row_pixels x n (y + down)))
      ≡ merge beyond a (shift_down down (extreme_among choose f (row_pixels x n y)))
  extreme_lowered f g down a x zero y same = refl
  extreme_lowered f g down a x (suc n) y same =
      let here : f x y ≡ g x (y + down) = cc in
      let rest = extreme_lowered f g down (one g (x, y + down)) (x + 1) n y cc in
      let first = extreme_cons f (x, y) (row_pixels (x + 1) n y) in
      cc (
        here,
        rest,
        first,
        extreme_cons g (x, y + down) (row_pixels (x + 1) n (y + down)),
        shift_merge beyond down (one f (x, y)) (extreme_among choose f (row_pixels (x + 1) n y)),
      )

-- ---- both extremes

-- the least and the greatest sample are among the samples
pub least_among : {T : Type 0} (value : T → ℤ) (row : List T) (v : ℤ)
    → 0 < length row
    → v ≡ best_of int_min (map value row)
    → 0 < count_of v (map value row)
least_among value row v some is =
    chosen_among int_min int_lt downwards (map value row) v (omega (arith, length-map row value)) is

pub greatest_among : {T : Type 0} (value : T → ℤ) (row : List T) (v : ℤ)
    → 0 < length row
    → v ≡ best_of int_max (map value row)
    → 0 < count_of v (map value row)
greatest_among value row v some is =
    chosen_among int_max (λ z v. int_lt v z) upwards (map value row) v
    (omega (arith, length-map row value)) is

pub ruleset among = (least_among, greatest_among, nat_tests)

-- samples of 16 bits in their order
pub same_order : (a b : ℤ)
    → FitsSigned w16 a
    → FitsSigned w16 b
    → int_lt (to_z w16 (of_z w16 a)) (to_z w16 (of_z w16 b)) ≡ int_lt a b
same_order a b fits other_fits = rw (to_z-of_z w16 a fits, to_z-of_z w16 b other_fits) refl

-- the extreme of a row, merged
pub row_merged :
    (choose : ℤ → ℤ → ℤ) (beyond : ℤ → ℤ → Bool) (f : ℕ → ℕ → ℤ) (ps : List (ℕ × ℕ))
    (ws : List ℤ) (v : ℤ) (is : Bool) (a : Extreme)
    → ws ≡ samples f ps
    → v ≡ best_of choose ws
    → is ≡ beyond v a.value
    → merge (λ _ _. is) a (record { value = v; count = count_of v ws; at = first_of f v ps })
    ≡ merge beyond a (extreme_among choose f ps)
row_merged choose beyond f ps ws v is a row best test = rw (test, best, row) refl

pub found_joined : (f : ℕ → ℕ → ℤ) (ps qs : List (ℕ × ℕ))
    → merge_found (found_in f ps) (found_in f qs) ≡ found_in f (ps ++ qs)
found_joined f ps qs =
    cc (
      extremes_joined int_min int_lt downwards f ps qs,
      extremes_joined int_max (λ z v. int_lt v z) upwards f ps qs,
    )

pub row_lowered : (f g : ℕ → ℕ → ℤ) (down : ℕ) (a : Found) (x n y : ℕ)
    → run x n (λ k. f k y) ≡ run x n (λ k. g k (y + down))
    → merge_found a (found_in g (row_pixels x n (y + down)))
    ≡ merge_found a (shift_found down (found_in f (row_pixels x n y)))
row_lowered f g down a x n y same =
    cc (
      extreme_lowered int_min int_lt downwards f g down a.least x n y same,
      extreme_lowered int_max (λ z v. int_lt v z) upwards f g down a.greatest x n y same,
    )

-- merged one after the other, or both together
found_assoc : (a b c : Found) → merge_found (merge_found a b) c ≡ merge_found a (merge_found b c)
found_assoc a b c =
    cc (
      merge_assoc int_min int_lt downwards a.least b.least c.least,
      merge_assoc int_max (λ z v. int_lt v z) upwards a.greatest b.greatest c.greatest,
    )

shift_both : (down : ℕ) (a b : Found)
    → merge_found (shift_found down a) (shift_found down b) ≡ shift_found down (merge_found a b)
shift_both down a b =
    cc (
      shift_merge int_lt down a.least b.least,
      shift_merge (λ z v. int_lt v z) down a.greatest b.greatest,
    )

pub found_more : (f : ℕ → ℕ → ℤ) (down : ℕ) (a : Found) (ps qs : List (ℕ × ℕ))
    → merge_found (merge_found a (shift_found down (found_in f ps)))
    (shift_found down (found_in f qs))
    ≡ merge_found a (shift_found down (found_in f (ps ++ qs)))
found_more f down a ps qs =
    found_assoc a (shift_found down (found_in f ps)) (shift_found down (found_in f qs))
    ∙ ap (merge_found a)
    (shift_both down (found_in f ps) (found_in f qs) ∙ ap (shift_found down) (found_joined f ps qs))

-- merging `found` equals merging the extremes of f at these pixels, moved `down` rows lower
abbrev pub MergesAs : (ℕ → ℕ → ℤ) → ℕ → List (ℕ × ℕ) → Found → Type 0
MergesAs f down ps found =
    (a : Found) → merge_found a found ≡ merge_found a (shift_found down (found_in f ps))

module _ (f : ℕ → ℕ → ℤ) (down : ℕ) (ps : List (ℕ × ℕ)) (found : Found)
    (are : MergesAs f down ps found) where
  pub merges_more : (qs : List (ℕ × ℕ)) (new : Found)
      → new ≡ merge_found found (shift_found down (found_in f qs))
      → MergesAs f down (ps ++ qs) new
  merges_more qs new is a =
      let row = shift_found down (found_in f qs) in
      ap (merge_found a) is
      ∙ sym (found_assoc a found row)
      ∙ ap (λ b. merge_found b row) (are a)
      ∙ found_more f down a ps qs

  pub same_counts :
      (found.least.count ≡ (found_in f ps).least.count)
      × (found.greatest.count ≡ (found_in f ps).greatest.count)
  same_counts =
      let both = are (found_in f []) in (
        grind (arith, nat_tests, ap (λ (e : Found). e.least.count) both),
        grind (arith, nat_tests, ap (λ (e : Found). e.greatest.count) both),
      )

-- no count is above the number of pixels
pub at_most : (choose : ℤ → ℤ → ℤ) (f : ℕ → ℕ → ℤ) (ps : List (ℕ × ℕ))
    → (extreme_among choose f ps).count ≤ length ps
at_most choose f ps =
    omega (
      arith,
      count_by-le-length (λ s. int_eq s (best_of choose (samples f ps))) (samples f ps),
      length-map ps (λ p. f p.0 p.1),
    )

-- the first pixel of a row with v
pub first_in_row : (f : ℕ → ℕ → ℤ) (v : ℤ) (x y n i : ℕ)
    → i < n
    → f (x + i) y ≡ v
    → count_of v (run x i (λ k. f k y)) ≡ 0
    → first_of f v (row_pixels x n y) ≡ (x + i, y)
first_in_row f v x y zero i below here none = absurd (omega arith)
first_in_row f v x y (suc n) zero below here none =
    let first : x + 0 ≡ x = omega arith in
    let at : f x y ≡ v = rw first at here in
    grind (arith, at, test_same v, first)
first_in_row f v x y (suc n) (suc i) below here none =
    let next : x + 1 + i ≡ x + suc i = omega arith in
    let at : f (x + 1 + i) y ≡ v = ap (λ k. f k y) next ∙ here in
    grind (
      arith,
      next,
      cases_Bool (int_eq (f x y) v),
      count_cons v (f x y) (run (x + 1) i (λ k. f k y)),
      first_in_row f v (x + 1) y n i (omega arith) at,
    )
