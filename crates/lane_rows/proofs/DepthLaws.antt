-- Bit depths: samples times a power of two, and over one.
use Rattle.std.proofs.Common.{◌≡◌, ℕ, ℤ, pos, negsuc, suc, ◌-◌, ◌*◌, ◌%◌, ◌^◌, ◌<◌, ◌≤◌, ◌*ℤ◌, unsigned_abs, List, [], ◌∷◌, length, map, w8, w16, Fits, FitsSigned, to_z, of_z, bit_and, refl, ap, ◌∙◌, sym, subst, arith, map-id}
use Rattle.lane_rows.proofs.Common.{shr_z, Each1, pow-le-pow_right, mod-eq_of_lt, to_z_pos, to_z-of_z, U8, Wrap, Saturate, narrow, top, and_mask, int_div_euclid, int_min, int_max}
use Rattle.std.specs.Int.Signed.{mag_shr}
use Rattle.lane_rows.proofs.LaneLaws.{chosen_w16}
use Rattle.lane_rows.proofs.NarrowLaws.{IsByte, nearest, nearest_at, raised_first, clamped_is_byte}
use Rattle.lane_rows.proofs.Lanewise.{Lanewise, one, constant, each, both, items_are, numbers_are, each_is}

product_below : (p a : ℕ) → p ≤ 128 → a < 256 → a * p < 32768
product_below p a small byte = grind arith

-- a U8 sample with at most seven more bits is an S16 sample
pub shifted : (a r k : ℕ) → r ≡ a → a < 256 → k ≤ 7 → to_z w16 (r * 2 ^ k % 65536) ≡ pos (a * 2 ^ k)
shifted a r k same byte small =
    let power : 2 ^ k ≤ 128 = pow-le-pow_right (omega arith) small in
    let fits : a * 2 ^ k < 32768 = product_below (2 ^ k) a power byte in
    rw (
      same,
      mod-eq_of_lt (let e : a * 2 ^ k < 65536 = omega arith in e),
    ) (to_z_pos w16 (a * 2 ^ k) fits)

-- ---- up, in lanes

abbrev up : ℕ → ℕ → ℕ
up x s = x * 2 ^ s % 65536

abbrev pub ups : ℕ → Lanewise ℕ ℕ ℕ
ups s = both up (each (λ x. x) one) (constant s)

pub up_is : (s k : ℕ) (xs : List ℕ)
    → s ≡ k
    → k ≤ 7
    → (length xs ≡ 32) × Each1 (Fits w8) xs
    → map (to_z w16) ((ups s).all 32 xs xs) ≡ map (λ a. a *ℤ pos (2 ^ k)) (map pos xs)
up_is s k xs is small p =
    items_are (ups s) (Fits w8) (to_z w16) pos (λ a. a *ℤ pos (2 ^ k)) 32 xs p.0 p.1
    (λ x q. ap (λ e. to_z w16 (up x e)) is ∙ shifted x x k refl q.fits small)

-- by no bit
pub up_by_none : (xs : List ℕ) → map (λ a. a *ℤ pos (2 ^ 0)) (map pos xs) ≡ map pos xs
up_by_none [] = refl
up_by_none (x ∷ xs) =
    let e : x * 1 ≡ x = omega arith in
    ap (λ n. pos n ∷ map (λ a. a *ℤ pos (2 ^ 0)) (map pos xs)) e
    ∙ ap (λ l. pos x ∷ l) (up_by_none xs)

pub ruleset widening = (up_by_none, map-id)

-- ---- down

abbrev down : ℕ → ℕ → ℕ
down x s = of_z w16 (shr_z (to_z w16 x) (2 ^ s))

abbrev pub downs : ℕ → Lanewise ℤ ℤ ℕ
downs s = both down (each (of_z w16) one) (constant s)

-- modulo 2 ^ 8
abbrev pub lefts : ℕ → Lanewise ℤ ℤ ℕ
lefts s = both bit_and (downs s) (constant 255)

-- the nearest number of eight bits
abbrev pub nearest_ones : ℕ → Lanewise ℤ ℤ ℕ
nearest_ones s = nearest w16 (top 15) 65535 0 255 (downs s)

-- a number as one without a sign
abbrev pub natural : ℕ → ℕ
natural x = unsigned_abs (to_z w16 x)

bytes : (m : ℕ) → m < 256 → to_z w16 m ≡ pos m
bytes m small = to_z_pos w16 m (omega (arith, small))

-- ---- at one lane

abbrev over : ℕ → ℤ → ℤ
over k z = int_div_euclid z (pos (2 ^ k))

shift_is : (z : ℤ) (m : ℕ) → shr_z z m ≡ int_div_euclid z (pos m)
shift_is (pos a) m = refl
shift_is (negsuc a) m = refl

over_fits : (k : ℕ) (z : ℤ) → FitsSigned w16 z → FitsSigned w16 (over k z)
over_fits k z f =
    subst (FitsSigned w16) (shift_is z (2 ^ k))
    (let e = mag_shr z (2 ^ k) in record { sfits = omega (arith, e, f.sfits) })

down_is : (z : ℤ) (s k : ℕ) → s ≡ k → FitsSigned w16 z → down (of_z w16 z) s ≡ of_z w16 (over k z)
down_is z s k is f =
    ap (λ e. down (of_z w16 z) e) is
    ∙ ap (λ y. of_z w16 (shr_z y (2 ^ k))) (to_z-of_z w16 z f)
    ∙ ap (of_z w16) (shift_is z (2 ^ k))

rest_of : (y : ℤ) → FitsSigned w16 y → pos (of_z w16 y % 256) ≡ narrow U8 Wrap y
rest_of (pos n) f = refl
rest_of (negsuc n) f =
    let e = f.sfits in let g : (65536 - suc n) % 256 ≡ 255 - n % 256 = omega (arith, e) in ap pos g

masked_below : (n : ℕ) → bit_and n 255 < 256
masked_below n = let e : n % 256 < 256 = omega arith in subst (λ m. m < 256) (sym (and_mask n 8)) e

left_is : (y : ℤ) → FitsSigned w16 y → pos (natural (bit_and (of_z w16 y) 255)) ≡ narrow U8 Wrap y
left_is y f =
    ap pos
    (ap unsigned_abs (bytes (bit_and (of_z w16 y) 255) (masked_below (of_z w16 y)))
    ∙ and_mask (of_z w16 y) 8)
    ∙ rest_of y f

nearest_is : (z : ℤ) (s k : ℕ)
    → s ≡ k
    → FitsSigned w16 z
    → to_z w16 ((nearest_ones s).at z z) ≡ narrow U8 Saturate (over k z)
nearest_is z s k is f =
    nearest_at w16 (top 15) 65535 chosen_w16 (down (of_z w16 z) s) 0 255
    ∙ ap (λ y. int_min (int_max (pos 0) y) (pos 255))
    (ap (to_z w16) (down_is z s k is f) ∙ to_z-of_z w16 (over k z) (over_fits k z f))
    ∙ (raised_first (over k z)).0

-- ---- in lanes

module _ (s k : ℕ) (zs : List ℤ) (is : s ≡ k) (long : length zs ≡ 32)
    (ps : Each1 (FitsSigned w16) zs) where
  pub lefts_fit : Each1 (λ x. IsByte (to_z w16 x)) ((lefts s).all 32 zs zs)
  lefts_fit =
      each_is (lefts s) (FitsSigned w16) (FitsSigned w16) (λ x. IsByte (to_z w16 x)) 32 zs zs
      long long ps ps
      (λ x y p q. let below = masked_below (down (of_z w16 x) s) in rw
      (bytes (bit_and (down (of_z w16 x) s) 255) below) (tt, record { fits = below }))

  pub nearest_fit : Each1 (λ x. IsByte (to_z w16 x)) ((nearest_ones s).all 32 zs zs)
  nearest_fit =
      each_is (nearest_ones s) (FitsSigned w16) (FitsSigned w16) (λ x. IsByte (to_z w16 x)) 32
      zs zs long long ps ps
      (λ x y p q. subst IsByte (sym (nearest_is x s k is p)) (clamped_is_byte (over k x)).0)

  pub lefts_are :
      map pos ((each natural (lefts s)).all 32 zs zs) ≡ map (λ z. narrow U8 Wrap (over k z)) zs
  lefts_are =
      numbers_are (each natural (lefts s)) (FitsSigned w16) pos (λ z. narrow U8 Wrap (over k z))
      32 zs long ps
      (λ z p. ap (λ n. pos (natural (bit_and n 255))) (down_is z s k is p)
      ∙ left_is (over k z) (over_fits k z p))

  pub nearest_are :
      map pos ((each natural (nearest_ones s)).all 32 zs zs)
      ≡ map (λ z. narrow U8 Saturate (over k z)) zs
  nearest_are =
      numbers_are (each natural (nearest_ones s)) (FitsSigned w16) pos
      (λ z. narrow U8 Saturate (over k z)) 32 zs long ps
      (λ z p. ap (λ y. pos (unsigned_abs y)) (nearest_is z s k is p)
      ∙ (clamped_is_byte (over k z)).1)
