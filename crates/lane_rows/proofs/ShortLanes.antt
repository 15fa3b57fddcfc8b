-- Arithmetic on numbers of 16 bits in lanes.
use Rattle.std.proofs.Common.{rules, ◌≡◌, ℕ, ℤ, pos, ◌+◌, ◌-◌, ◌%◌, ◌-ℤ◌, ◌+ℤ◌, int_lt, unsigned_abs, List, length, map, Bool, true, false, cond, w16, w32, FitsSigned, to_z, of_z, refl, ap, ◌∙◌, sym, subst, arith, map-id}
use Rattle.std.specs.Int.{int_min, int_max}
use Rattle.lane_rows.proofs.Common.{zip2, Each1, ints, clamps, to_z-of_z, int_wrap_fits, length-zip2, S16, Policy, Saturate, narrow, top, Width}
use Rattle.std.proofs.lemmas.Int.{wrapping_add_is, wrapping_sub_is}
use Rattle.vx_base.specs.Sample.{distance}
use Rattle.vx_base.specs.Pixelwise.{sum, difference, absolute_difference, smaller, greater}
use Rattle.lane_rows.proofs.ShortLaws.{of_bits, wider, widened}
use Rattle.lane_rows.proofs.Lanewise.{Lanewise, one, other, each, both, chosen, pairs_are, map-zip2, each_of}

-- the bits of the lanes of the one vector and of the other
abbrev pub one_short : Lanewise ℤ ℤ ℕ
one_short = each (of_z w16) one

abbrev pub other_short : Lanewise ℤ ℤ ℕ
other_short = each (of_z w16) other

abbrev less : ℕ → ℕ → ℕ
less a b = cond (int_lt (to_z w16 a) (to_z w16 b)) 65535 0

abbrev pub smallest : Lanewise ℤ ℤ ℕ → Lanewise ℤ ℤ ℕ → Lanewise ℤ ℤ ℕ
smallest e f = chosen (top 15) (both less e f) e f

abbrev pub largest : Lanewise ℤ ℤ ℕ → Lanewise ℤ ℤ ℕ → Lanewise ℤ ℤ ℕ
largest e f = chosen (top 15) (both less e f) f e

-- in 32 bits
abbrev pub wide : ℕ → ℕ
wide x = of_z w32 (to_z w16 x)

abbrev pub plus : ℕ → ℕ → ℕ
plus x y = (x + y) % 4294967296

abbrev pub minus : ℕ → ℕ → ℕ
minus x y = (x + (4294967296 - y)) % 4294967296

pub shorts_are : (e : Lanewise ℤ ℤ ℕ) (w : Width) (f : ℤ → ℤ → ℤ) (us vs : List ℤ)
    → length us ≡ 16
    → length vs ≡ 16
    → Each1 (FitsSigned w16) us
    → Each1 (FitsSigned w16) vs
    → ((x y : ℤ) → FitsSigned w16 x → FitsSigned w16 y → to_z w (e.at x y) ≡ f x y)
    → map (to_z w) (e.all 16 us vs) ≡ zip2 f us vs
shorts_are e w f us vs p q ps qs at =
    pairs_are e (FitsSigned w16) (FitsSigned w16) (to_z w) (λ z. z) (λ z. z) f 16 us vs p q ps qs at
    ∙ ap (λ (l : List ℤ). zip2 f l (map (λ z. z) vs)) (map-id us) ∙ ap (zip2 f us) (map-id vs)

-- ---- at one lane

chosen_bits : (b : Bool) (x y z : ℤ)
    → cond b x y ≡ z
    → cond (top 15 (cond b 65535 0)) (of_z w16 x) (of_z w16 y) ≡ of_z w16 z
chosen_bits true x y z is = ap (of_z w16) is
chosen_bits false x y z is = ap (of_z w16) is

smallest_at : (x y : ℤ)
    → FitsSigned w16 x
    → FitsSigned w16 y
    → cond (top 15 (less (of_z w16 x) (of_z w16 y))) (of_z w16 x) (of_z w16 y)
    ≡ of_z w16 (int_min x y)
smallest_at x y p q =
    rw (to_z-of_z w16 x p, to_z-of_z w16 y q)
    (chosen_bits (int_lt x y) x y (int_min x y) (grind (arith, ints, clamps)))

largest_at : (x y : ℤ)
    → FitsSigned w16 x
    → FitsSigned w16 y
    → cond (top 15 (less (of_z w16 x) (of_z w16 y))) (of_z w16 y) (of_z w16 x)
    ≡ of_z w16 (int_max x y)
largest_at x y p q =
    rw (to_z-of_z w16 x p, to_z-of_z w16 y q)
    (chosen_bits (int_lt x y) y x (int_max x y) (grind (arith, ints, clamps)))

pub min_fits : (x y : ℤ) → FitsSigned w16 x → FitsSigned w16 y → FitsSigned w16 (int_min x y)
min_fits x y p q = record {
  sfits =
      first_of (
        omega (arith, ints, clamps, p.sfits, q.sfits),
        grind
            (arith, ints, clamps, p.sfits, q.sfits),
      );
}

pub max_fits : (x y : ℤ) → FitsSigned w16 x → FitsSigned w16 y → FitsSigned w16 (int_max x y)
max_fits x y p q = record {
  sfits =
      first_of (
        omega (arith, ints, clamps, p.sfits, q.sfits),
        grind
            (arith, ints, clamps, p.sfits, q.sfits),
      );
}

pub smaller_is : (x y : ℤ)
    → FitsSigned w16 x
    → FitsSigned w16 y
    → to_z w16 (cond (top 15 (less (of_z w16 x) (of_z w16 y))) (of_z w16 x) (of_z w16 y))
    ≡ int_min x y
smaller_is x y p q =
    ap (to_z w16) (smallest_at x y p q) ∙ to_z-of_z w16 (int_min x y) (min_fits x y p q)

pub greater_is : (x y : ℤ)
    → FitsSigned w16 x
    → FitsSigned w16 y
    → to_z w16 (cond (top 15 (less (of_z w16 x) (of_z w16 y))) (of_z w16 y) (of_z w16 x))
    ≡ int_max x y
greater_is x y p q =
    ap (to_z w16) (largest_at x y p q) ∙ to_z-of_z w16 (int_max x y) (max_fits x y p q)

pub sum_fits : (x y : ℤ) → FitsSigned w16 x → FitsSigned w16 y → FitsSigned w32 (x +ℤ y)
sum_fits x y p q = first_of (search (rules, ints), grind (arith, ints))

pub difference_fits : (x y : ℤ) → FitsSigned w16 x → FitsSigned w16 y → FitsSigned w32 (x -ℤ y)
difference_fits x y p q = first_of (search (rules, ints), grind (arith, ints))

pub sum_is : (x y : ℤ)
    → FitsSigned w16 x
    → FitsSigned w16 y
    → to_z w32 (plus (wide (of_z w16 x)) (wide (of_z w16 y))) ≡ x +ℤ y
sum_is x y p q =
    rw (widened x p, widened y q)
    (wrapping_add_is w32 x y (wider x p) (wider y q)
    ∙ int_wrap_fits w32 (x +ℤ y) (sum_fits x y p q))

pub difference_is : (x y : ℤ)
    → FitsSigned w16 x
    → FitsSigned w16 y
    → to_z w32 (minus (wide (of_z w16 x)) (wide (of_z w16 y))) ≡ x -ℤ y
difference_is x y p q =
    rw (widened x p, widened y q)
    (wrapping_sub_is w32 x y (wider x p) (wider y q)
    ∙ int_wrap_fits w32 (x -ℤ y) (difference_fits x y p q))

spread : (b : Bool) (x y : ℤ)
    → int_lt x y ≡ b
    → int_max x y -ℤ int_min x y ≡ pos (unsigned_abs (x -ℤ y))
spread true x y h = grind (arith, ints, clamps, h)
spread false x y h = grind (arith, ints, clamps, h)

pub distance_is : (x y : ℤ) → FitsSigned w16 x → FitsSigned w16 y
    → to_z w32
    (minus (wide (cond (top 15 (less (of_z w16 x) (of_z w16 y))) (of_z w16 y) (of_z w16 x)))
    (wide (cond (top 15 (less (of_z w16 x) (of_z w16 y))) (of_z w16 x) (of_z w16 y))))
    ≡ pos (distance x y)
distance_is x y p q =
    ap
    (λ a. to_z w32
    (minus (wide a)
    (wide (cond (top 15 (less (of_z w16 x) (of_z w16 y))) (of_z w16 x) (of_z w16 y)))))
    (largest_at x y p q)
    ∙ ap (λ b. to_z w32 (minus (wide (of_z w16 (int_max x y))) (wide b))) (smallest_at x y p q)
    ∙ difference_is (int_max x y) (int_min x y) (max_fits x y p q) (min_fits x y p q)
    ∙ spread (int_lt x y) x y refl

pub distance_fits : (x y : ℤ)
    → FitsSigned w16 x
    → FitsSigned w16 y
    → FitsSigned w32 (pos (distance x y))
distance_fits x y p q =
    subst (FitsSigned w32) (spread (int_lt x y) x y refl)
    (difference_fits (int_max x y) (int_min x y) (max_fits x y p q) (min_fits x y p q))

-- ---- the results for two vectors, in 32 bits and narrowed

module _ (us vs : List ℤ) (p : length us ≡ 16) (q : length vs ≡ 16)
    (f : Each1 (FitsSigned w16) us) (h : Each1 (FitsSigned w16) vs) where
  module _ (e : Lanewise ℤ ℤ ℕ) (w : Width) (g : ℤ → ℤ → ℤ)
      (fit : (x y : ℤ) → FitsSigned w16 x → FitsSigned w16 y → FitsSigned w (g x y))
      (law : (x y : ℤ) → FitsSigned w16 x → FitsSigned w16 y → to_z w (e.at x y) ≡ g x y) where
    value : map (to_z w) (e.all 16 us vs) ≡ zip2 g us vs
    value = shorts_are e w g us vs p q f h law

    fits : Each1 (FitsSigned w) (map (to_z w) (e.all 16 us vs))
    fits =
        subst (Each1 (FitsSigned w)) (sym value)
        (each_of (FitsSigned w16) (FitsSigned w16) (FitsSigned w) g us vs f h fit)

    long : length (map (to_z w) (e.all 16 us vs)) ≡ 16
    long = ap length value ∙ length-zip2 g us vs (p ∙ sym q) ∙ p

    narrowed : (policy : Policy)
        → map (narrow S16 policy) (map (to_z w) (e.all 16 us vs))
        ≡ zip2 (λ x y. narrow S16 policy (g x y)) us vs
    narrowed policy = ap (map (narrow S16 policy)) value ∙ map-zip2 (narrow S16 policy) g us vs

  abbrev sums : Lanewise ℤ ℤ ℕ
  sums = both plus (each wide one_short) (each wide other_short)

  pub sums_long : length (map (to_z w32) (sums.all 16 us vs)) ≡ 16
  sums_long = long sums w32 ◌+ℤ◌ sum_fits sum_is

  pub sums_fit : Each1 (FitsSigned w32) (map (to_z w32) (sums.all 16 us vs))
  sums_fit = fits sums w32 ◌+ℤ◌ sum_fits sum_is

  pub sums_narrowed : (policy : Policy)
      → map (narrow S16 policy) (map (to_z w32) (sums.all 16 us vs)) ≡ zip2 (sum S16 policy) us vs
  sums_narrowed = narrowed sums w32 ◌+ℤ◌ sum_fits sum_is

  abbrev differences : Lanewise ℤ ℤ ℕ
  differences = both minus (each wide one_short) (each wide other_short)

  pub differences_long : length (map (to_z w32) (differences.all 16 us vs)) ≡ 16
  differences_long = long differences w32 ◌-ℤ◌ difference_fits difference_is

  pub differences_fit : Each1 (FitsSigned w32) (map (to_z w32) (differences.all 16 us vs))
  differences_fit = fits differences w32 ◌-ℤ◌ difference_fits difference_is

  pub differences_narrowed : (policy : Policy)
      → map (narrow S16 policy) (map (to_z w32) (differences.all 16 us vs))
      ≡ zip2 (difference S16 policy) us vs
  differences_narrowed = narrowed differences w32 ◌-ℤ◌ difference_fits difference_is

  abbrev distances : Lanewise ℤ ℤ ℕ
  distances =
      both minus (each wide (largest one_short other_short))
      (each wide (smallest one_short other_short))

  abbrev apart : ℤ → ℤ → ℤ
  apart x y = pos (distance x y)

  pub distances_long : length (map (to_z w32) (distances.all 16 us vs)) ≡ 16
  distances_long = long distances w32 apart distance_fits distance_is

  pub distances_fit : Each1 (FitsSigned w32) (map (to_z w32) (distances.all 16 us vs))
  distances_fit = fits distances w32 apart distance_fits distance_is

  pub distances_narrowed :
      map (narrow S16 Saturate) (map (to_z w32) (distances.all 16 us vs))
      ≡ zip2 (absolute_difference S16) us vs
  distances_narrowed = narrowed distances w32 apart distance_fits distance_is Saturate

  pub smallest_are :
      map (to_z w16) ((smallest one_short other_short).all 16 us vs) ≡ zip2 smaller us vs
  smallest_are = value (smallest one_short other_short) w16 smaller min_fits smaller_is

  pub smallest_fit :
      Each1 (FitsSigned w16) (map (to_z w16) ((smallest one_short other_short).all 16 us vs))
  smallest_fit = fits (smallest one_short other_short) w16 smaller min_fits smaller_is

  pub largest_are :
      map (to_z w16) ((largest one_short other_short).all 16 us vs) ≡ zip2 greater us vs
  largest_are = value (largest one_short other_short) w16 greater max_fits greater_is

  pub largest_fit :
      Each1 (FitsSigned w16) (map (to_z w16) ((largest one_short other_short).all 16 us vs))
  largest_fit = fits (largest one_short other_short) w16 greater max_fits greater_is

pub ruleset sum_lanes = (of_bits, sums_long, sums_fit, sums_narrowed)

pub ruleset difference_lanes = (of_bits, differences_long, differences_fit, differences_narrowed)

pub ruleset distance_lanes = (of_bits, distances_long, distances_fit, distances_narrowed)

pub ruleset extreme_lanes = (smallest_are, smallest_fit, largest_are, largest_fit)
