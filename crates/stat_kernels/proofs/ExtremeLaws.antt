-- What the extremes are.
use Rattle.std.proofs.Common.{◌≡◌, ◌⊎◌, inl, inr, ℤ, pos, ◌≤ℤ◌, List, [], ◌∷◌, suc, refl, sym, arith}
use Rattle.stat_kernels.proofs.Common.{fold, All, int_min, int_max, All-nil, All-cons, best_of}
use Rattle.std.specs.List.{Contains}
use Rattle.std.proofs.lemmas.Int.{fold-int_min_bounds, fold-int_max_bounds, fold-int_min_reached, fold-int_max_reached}

pub least_bounds : (zs : List ℤ) → All (λ z. best_of int_min zs ≤ℤ z) zs
least_bounds [] = All-nil (λ z. pos 0 ≤ℤ z)
least_bounds (a ∷ zs) =
    let b = fold-int_min_bounds a zs (fold int_min a zs) refl in
    All-cons (λ z. fold int_min a zs ≤ℤ z) a zs b.0 b.1

pub greatest_bounds : (zs : List ℤ) → All (λ z. z ≤ℤ best_of int_max zs) zs
greatest_bounds [] = All-nil (λ z. z ≤ℤ pos 0)
greatest_bounds (a ∷ zs) =
    let b = fold-int_max_bounds a zs (fold int_max a zs) refl in
    All-cons (λ z. z ≤ℤ fold int_max a zs) a zs b.0 b.1

contains_one : (a r : ℤ) (zs : List ℤ) → (r ≡ a) ⊎ Contains zs r → Contains (a ∷ zs) r
contains_one a r zs (inl same) = (0, omega arith, sym same)
contains_one a r zs (inr among) = (suc among.0, omega (arith, among.1), among.2)

pub least_reached : (zs : List ℤ) → (zs ≡ [] → ⊥) → Contains zs (best_of int_min zs)
least_reached [] some = absurd (some refl)
least_reached (a ∷ zs) some =
    contains_one a (fold int_min a zs) zs (fold-int_min_reached a zs (fold int_min a zs) refl)

pub greatest_reached : (zs : List ℤ) → (zs ≡ [] → ⊥) → Contains zs (best_of int_max zs)
greatest_reached [] some = absurd (some refl)
greatest_reached (a ∷ zs) some =
    contains_one a (fold int_max a zs) zs (fold-int_max_reached a zs (fold int_max a zs) refl)

pub ruleset bounds = (least_bounds, greatest_bounds, least_reached, greatest_reached)
