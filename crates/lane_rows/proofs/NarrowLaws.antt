-- Numbers in lanes, narrowed.
use Rattle.std.proofs.Common.{◌≡◌, Bool, true, false, cond, inl, inr, ℕ, ℤ, pos, negsuc, suc, ◌-◌, ◌*◌, ◌/◌, ◌%◌, ◌^◌, ◌<◌, ◌≤◌, int_lt, int_div, unsigned_abs, List, [], ◌∷◌, map, length, refl, ap, ◌∙◌, sym, subst, arith, w8, w16, w32, Fits, FitsSigned, to_z, of_z, ◌*ℤ◌, pow_pos}
use Rattle.lane_rows.proofs.Common.{shr_z, zip2, Each1, cases_lt, nat_tests, ints, clamps, to_z-of_z, to_z_pos, U8, S16, Policy, Wrap, Saturate, narrow, product, top, Width, swap_quarters, length-zip2, map-map, int_min, int_max}
use Rattle.std.specs.Int.{int_rem_euclid}
use Rattle.std.proofs.lemmas.Int.{quot_fits}
use Rattle.vx_base.specs.Sample.{signed_of, clamp}
use Rattle.lane_rows.proofs.Lanewise.{Lanewise, one, constant, each, both, chosen, numbers_are, each_is, map-zip2}
use Rattle.lane_rows.proofs.ShortLaws.{of_bits, fit_as_bits, wider}
use Rattle.lane_rows.proofs.QuarterLaws.{written_out}
use lib.Dec.{T}
use lib.Signed.{non_neg}

-- ---- the nearest numbers of a range, from the bits of its ends

abbrev less : Width → ℕ → ℕ → ℕ → ℕ
less w ones a b = cond (int_lt (to_z w a) (to_z w b)) ones 0

abbrev raised : Width → (ℕ → Bool) → ℕ → ℕ → Lanewise ℤ ℤ ℕ → Lanewise ℤ ℤ ℕ
raised w t ones lo e = chosen t (both (less w ones) e (constant lo)) (constant lo) e

abbrev pub nearest : Width → (ℕ → Bool) → ℕ → ℕ → ℕ → Lanewise ℤ ℤ ℕ → Lanewise ℤ ℤ ℕ
nearest w t ones lo hi e =
    chosen t (both (less w ones) (raised w t ones lo e) (constant hi)) (raised w t ones lo e)
    (constant hi)

module _ (w : Width) (t : ℕ → Bool) (ones : ℕ)
    (picks : (b : Bool) (x y : ℕ) → cond (t (cond b ones 0)) x y ≡ cond b x y) where
  greater_at : (b : Bool) (x lo : ℕ)
      → int_lt (to_z w x) (to_z w lo) ≡ b
      → to_z w (cond (t (cond b ones 0)) lo x) ≡ int_max (to_z w lo) (to_z w x)
  greater_at true x lo h = ap (to_z w) (picks true lo x) ∙ grind (arith, ints, clamps, h)
  greater_at false x lo h = ap (to_z w) (picks false lo x) ∙ grind (arith, ints, clamps, h)

  lesser_at : (b : Bool) (x hi : ℕ)
      → int_lt (to_z w x) (to_z w hi) ≡ b
      → to_z w (cond (t (cond b ones 0)) x hi) ≡ int_min (to_z w x) (to_z w hi)
  lesser_at true x hi h = ap (to_z w) (picks true x hi) ∙ grind (arith, ints, clamps, h)
  lesser_at false x hi h = ap (to_z w) (picks false x hi) ∙ grind (arith, ints, clamps, h)

  pub nearest_at : (x lo hi : ℕ)
      → to_z w
      (cond (t (less w ones (cond (t (less w ones x lo)) lo x) hi))
      (cond (t (less w ones x lo)) lo x) hi)
      ≡ int_min (int_max (to_z w lo) (to_z w x)) (to_z w hi)
  nearest_at x lo hi =
      lesser_at (int_lt (to_z w (cond (t (less w ones x lo)) lo x)) (to_z w hi))
      (cond (t (less w ones x lo)) lo x) hi refl
      ∙ ap (λ y. int_min y (to_z w hi)) (greater_at (int_lt (to_z w x) (to_z w lo)) x lo refl)

picks_32 : (b : Bool) (x y : ℕ) → cond (top 31 (cond b 4294967295 0)) x y ≡ cond b x y
picks_32 true x y = refl
picks_32 false x y = refl

pub raised_first : (z : ℤ)
    → (int_min (int_max (pos 0) z) (pos 255) ≡ clamp U8 z)
    × (int_min (int_max (negsuc 32767) z) (pos 32767) ≡ clamp S16 z)
raised_first z = (grind (arith, ints, clamps), grind (arith, ints, clamps))

-- a number of eight bits as an unsigned one
abbrev pub IsByte : ℤ → Type 0
IsByte z = T (non_neg z) × Fits w8 (unsigned_abs z)

pub clamped_is_byte : (z : ℤ) → IsByte (clamp U8 z) × (pos (unsigned_abs (clamp U8 z)) ≡ clamp U8 z)
clamped_is_byte z = grind (arith, ints, clamps)

pub nearest_fits : (z : ℤ) → FitsSigned w16 (narrow S16 Saturate z)
nearest_fits z = record {
  sfits = first_of (omega (arith, ints, clamps), grind (arith, ints, clamps));
}

abbrev bits : Lanewise ℤ ℤ ℕ
bits = each (of_z w32) one

abbrev pub bytes : Lanewise ℤ ℤ ℕ
bytes = nearest w32 (top 31) 4294967295 0 255 bits

abbrev pub shorts : Lanewise ℤ ℤ ℕ
shorts = nearest w32 (top 31) 4294967295 4294934528 32767 bits

byte_at : (z : ℤ) → FitsSigned w32 z → to_z w32 (bytes.at z z) ≡ clamp U8 z
byte_at z f =
    nearest_at w32 (top 31) 4294967295 picks_32 (of_z w32 z) 0 255
    ∙ ap (λ y. int_min (int_max (pos 0) y) (pos 255)) (to_z-of_z w32 z f)
    ∙ (raised_first z).0

short_at : (z : ℤ) → FitsSigned w32 z → to_z w32 (shorts.at z z) ≡ clamp S16 z
short_at z f =
    nearest_at w32 (top 31) 4294967295 picks_32 (of_z w32 z) 4294934528 32767
    ∙ ap (λ y. int_min (int_max (negsuc 32767) y) (pos 32767)) (to_z-of_z w32 z f)
    ∙ (raised_first z).1

module _ (zs : List ℤ) (long : length zs ≡ 16) (fits : Each1 (FitsSigned w32) zs) where
  pub each_byte : Each1 (λ x. IsByte (to_z w32 x)) (bytes.all 16 zs zs)
  each_byte =
      each_is bytes (FitsSigned w32) (FitsSigned w32) (λ x. IsByte (to_z w32 x)) 16 zs zs long
      long fits fits (λ z y f g. subst IsByte (sym (byte_at z f)) (clamped_is_byte z).0)

  pub bytes_are :
      map pos ((each (λ x. unsigned_abs (to_z w32 x)) bytes).all 16 zs zs) ≡ map (clamp U8) zs
  bytes_are =
      numbers_are (each (λ x. unsigned_abs (to_z w32 x)) bytes) (FitsSigned w32) pos (clamp U8)
      16 zs long fits
      (λ z f. ap (λ y. pos (unsigned_abs y)) (byte_at z f) ∙ (clamped_is_byte z).1)

  pub each_nearest : Each1 (λ x. FitsSigned w16 (to_z w32 x)) (shorts.all 16 zs zs)
  each_nearest =
      each_is shorts (FitsSigned w32) (FitsSigned w32) (λ x. FitsSigned w16 (to_z w32 x)) 16 zs
      zs long long fits fits
      (λ z y f g. subst (FitsSigned w16) (sym (short_at z f)) (nearest_fits z))

  pub nearest_are :
      map (to_z w16) ((each (λ x. of_z w16 (to_z w32 x)) shorts).all 16 zs zs)
      ≡ map (narrow S16 Saturate) zs
  nearest_are =
      numbers_are (each (λ x. of_z w16 (to_z w32 x)) shorts) (FitsSigned w32) (to_z w16)
      (narrow S16 Saturate) 16 zs long fits
      (λ z f. ap (λ y. to_z w16 (of_z w16 y)) (short_at z f)
      ∙ to_z-of_z w16 (narrow S16 Saturate z) (nearest_fits z))

-- ---- modulo 2 ^ 16

left_shifted : (x : ℕ) → (x * 65536) % 4294967296 ≡ x % 65536 * 65536
left_shifted x = omega arith

small_half : (r : ℕ) → r < 32768 → pos r ≡ signed_of (pos r)
small_half r less = grind (arith, nat_tests, ints, less)

large_half : (r : ℕ) → 32768 ≤ r → r < 65536 → negsuc (65535 - r) ≡ signed_of (pos r)
large_half r more small = grind (arith, nat_tests, ints, more, small)

halves : (r : ℕ) → r < 65536 → shr_z (to_z w32 (r * 65536)) 65536 ≡ signed_of (pos r)
halves r small = elim (cases_lt r 32768) [
  | inl less ↦
      (let f : r * 65536 / 65536 ≡ r = omega arith in ap (λ y. shr_z y 65536)
      (to_z_pos w32 (r * 65536) (omega (arith, less))) ∙ ap pos f ∙ small_half r less)
  | inr more ↦ (
      let m = 4294967295 - r * 65536 in
      let e : r * 65536 ≡ 4294967296 - suc m = omega (arith, small) in
      let f : m / 65536 ≡ 65535 - r = omega (arith, small) in
      let g : m < 2147483648 = omega (arith, more) in
      ap (λ n. shr_z (to_z w32 n) 65536) e
      ∙ ap (λ y. shr_z y 65536) (to_z-of_z w32 (negsuc m) (record { sfits = g }))
      ∙ ap negsuc f
      ∙ large_half r more small)
]

half_fits : (r : ℕ) → r < 65536 → FitsSigned w16 (signed_of (pos r))
half_fits r small = elim (cases_lt r 32768) [
  | inl less ↦ subst (FitsSigned w16) (small_half r less) (record { sfits = less })
  | inr more ↦
      subst (FitsSigned w16) (large_half r more small)
      (record { sfits = omega (arith, more, small) })
]

rest_of : (z : ℤ) → FitsSigned w32 z → pos (of_z w32 z % 65536) ≡ int_rem_euclid z (pos 65536)
rest_of (pos n) fits = refl
rest_of (negsuc n) fits =
    let e = fits.sfits in
    let f : (4294967296 - suc n) % 65536 ≡ 65535 - n % 65536 = omega (arith, e) in ap pos f

wrapped_fits : (z : ℤ) → FitsSigned w32 z → FitsSigned w16 (narrow S16 Wrap z)
wrapped_fits z fits =
    let small : of_z w32 z % 65536 < 65536 = omega arith in
    subst (λ y. FitsSigned w16 (signed_of y)) (rest_of z fits)
    (half_fits (of_z w32 z % 65536) small)

wrapped_lane : (z : ℤ)
    → FitsSigned w32 z
    → to_z w32 (of_z w32 (shr_z (to_z w32 ((of_z w32 z * 65536) % 4294967296)) 65536))
    ≡ narrow S16 Wrap z
wrapped_lane z fits =
    let small : of_z w32 z % 65536 < 65536 = omega arith in
    rw (
      left_shifted (of_z w32 z),
      halves (of_z w32 z % 65536) small ∙ ap signed_of (rest_of z fits),
    ) (to_z-of_z w32 (narrow S16 Wrap z) (wider (narrow S16 Wrap z) (wrapped_fits z fits)))

abbrev pub lefts : Lanewise ℤ ℤ ℕ
lefts =
    both (λ a b. of_z w32 (shr_z (to_z w32 a) (2 ^ b)))
    (both (λ a b. (a * 2 ^ b) % 4294967296) bits (constant 16)) (constant 16)

module _ (zs : List ℤ) (long : length zs ≡ 16) (fits : Each1 (FitsSigned w32) zs) where
  pub each_wrapped : Each1 (λ x. FitsSigned w16 (to_z w32 x)) (lefts.all 16 zs zs)
  each_wrapped =
      each_is lefts (FitsSigned w32) (FitsSigned w32) (λ x. FitsSigned w16 (to_z w32 x)) 16 zs
      zs long long fits fits
      (λ z y f g. subst (FitsSigned w16) (sym (wrapped_lane z f)) (wrapped_fits z f))

  pub wrapped_are :
      map (to_z w16) ((each (λ x. of_z w16 (to_z w32 x)) lefts).all 16 zs zs)
      ≡ map (narrow S16 Wrap) zs
  wrapped_are =
      numbers_are (each (λ x. of_z w16 (to_z w32 x)) lefts) (FitsSigned w32) (to_z w16)
      (narrow S16 Wrap) 16 zs long fits
      (λ z f. ap (λ y. to_z w16 (of_z w16 y)) (wrapped_lane z f)
      ∙ to_z-of_z w16 (narrow S16 Wrap z) (wrapped_fits z f))

-- ---- by any policy

pub narrow_fits : (policy : Policy) (zs : List ℤ)
    → Each1 (FitsSigned w32) zs
    → Each1 (FitsSigned w16) (map (narrow S16 policy) zs)
narrow_fits policy [] fits = tt
narrow_fits Wrap (z ∷ zs) fits = (wrapped_fits z fits.0, narrow_fits Wrap zs fits.1)
narrow_fits Saturate (z ∷ zs) fits = (nearest_fits z, narrow_fits Saturate zs fits.1)

-- ---- products

pub quotients_fit : (k : ℕ) (zs : List ℤ)
    → Each1 (FitsSigned w32) zs
    → Each1 (FitsSigned w32) (map (λ z. int_div z (pos (2 ^ k))) zs)
quotients_fit k [] fits = tt
quotients_fit k (z ∷ zs) fits =
    let some : 0 < 2 ^ k = pow_pos k in
    (quot_fits w32 z (pos (2 ^ k)) fits.0 (omega (arith, ints, some)), quotients_fit k zs fits.1)

pub products_narrowed : (policy : Policy) (k : ℕ) (us vs : List ℤ) → length us ≡ 16 → length vs ≡ 16
    → swap_quarters
    (map (narrow S16 policy) (map (λ z. int_div z (pos (2 ^ k))) (swap_quarters (zip2 ◌*ℤ◌ us vs))))
    ≡ zip2 (product S16 policy k) us vs
products_narrowed policy k us vs p q =
    let over = λ (z : ℤ). int_div z (pos (2 ^ k)) in
    written_out (pos 0)
    (λ u. swap_quarters (map (narrow S16 policy) (map over (swap_quarters u)))
    ≡ map (narrow S16 policy) (map over u))
    (zip2 ◌*ℤ◌ us vs) (length-zip2 ◌*ℤ◌ us vs (p ∙ sym q) ∙ p) refl
    ∙ ap (map (narrow S16 policy)) (map-zip2 over ◌*ℤ◌ us vs)
    ∙ map-zip2 (narrow S16 policy) (λ x y. over (x *ℤ y)) us vs

pub ruleset scale_lanes = (of_bits, fit_as_bits, map-map)
