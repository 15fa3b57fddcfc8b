-- Arithmetic on unsigned numbers, lane by lane.
use Rattle.std.proofs.Common.{◌≡◌, ℕ, pos, ◌*◌, ◌/◌, ◌%◌, ◌^◌, ◌<◌, List, length, map, w16, Bool, true, false, cond, min, ltb, w8, Fits, refl, ap, ◌∙◌, sym, subst, arith, bit_and}
use Rattle.lane_rows.proofs.Common.{zip2, Each1, ints, clamps, U8, Policy, Wrap, Saturate, narrow, product, top, and_mask, map-map}
use Rattle.lane_rows.proofs.Lanewise.{Lanewise, one, other, constant, each, both, chosen, items_are, pairs_are, each_is}

-- products of bytes in 16 bits, over a power of two
abbrev pub products : ℕ → Lanewise ℕ ℕ ℕ
products s =
    both (λ x e. x / 2 ^ e)
    (both (λ x y. (x * y) % 65536) (each (λ x. x) one) (each (λ x. x) other)) (constant s)

-- the smaller of a number and 255, and the last eight bits of a number
abbrev pub clamped_ones : Lanewise ℕ ℕ ℕ
clamped_ones =
    chosen (top 15) (both (λ x y. cond (ltb x y) 65535 0) one (constant 255)) one (constant 255)

abbrev pub wrapped_ones : Lanewise ℕ ℕ ℕ
wrapped_ones = both bit_and one (constant 255)

-- ---- at one lane

product_fits : (x y : ℕ) → x < 256 → y < 256 → x * y < 65536
product_fits x y p q = grind arith

-- products of bytes have 16 bits
pub product_lane : (x y k n : ℕ)
    → k ≡ n
    → Fits w8 x
    → Fits w8 y
    → x * y % 65536 / 2 ^ k ≡ x * y / 2 ^ n
product_lane x y k n same p q =
    let small : x * y < 65536 = product_fits x y p.fits q.fits in
    let whole : x * y % 65536 ≡ x * y = omega (arith, small) in
    rw (whole, same) refl

pub chosen_w16 : (t : Bool) (a b : ℕ) → cond (top 15 (cond t 65535 0)) a b ≡ cond t a b
chosen_w16 t a b = elim t as (λ v. cond (top 15 (cond v 65535 0)) a b ≡ cond v a b) [
  | true ↦ refl
  | false ↦ refl
]

pub smaller_lane : (x y : ℕ) → cond (ltb x y) x y ≡ min x y
smaller_lane x y = grind arith

-- the smaller of a number and 255
clamped_lane : (x : ℕ) → cond (top 15 (cond (ltb x 255) 65535 0)) x 255 ≡ min x 255
clamped_lane x = chosen_w16 (ltb x 255) x 255 ∙ smaller_lane x 255

-- ---- numbers that become bytes

pub clamp_pos : (n : ℕ) → pos (min n 255) ≡ narrow U8 Saturate (pos n)
clamp_pos n = grind (arith, ints, clamps)

module _ (ns : List ℕ) (p : length ns ≡ 32) (f : Each1 (Fits w16) ns) where
  pub clamped_are :
      map pos ((each (λ n. n) clamped_ones).all 32 ns ns) ≡ map (narrow U8 Saturate) (map pos ns)
  clamped_are =
      items_are (each (λ n. n) clamped_ones) (Fits w16) pos pos (narrow U8 Saturate) 32 ns p f
      (λ x _. ap pos (clamped_lane x) ∙ clamp_pos x)

  pub clamped_fit : Each1 (Fits w8) (clamped_ones.all 32 ns ns)
  clamped_fit =
      each_is clamped_ones (Fits w16) (Fits w16) (Fits w8) 32 ns ns p p f f
      (λ x _ _ _. let e : min x 255 < 256 = omega arith in subst (Fits w8)
      (sym (clamped_lane x)) (record { fits = e }))

  pub wrapped_are :
      map pos ((each (λ n. n) wrapped_ones).all 32 ns ns) ≡ map (narrow U8 Wrap) (map pos ns)
  wrapped_are =
      items_are (each (λ n. n) wrapped_ones) (Fits w16) pos pos (narrow U8 Wrap) 32 ns p f
      (λ x _. ap pos (and_mask x 8))

  pub wrapped_fit : Each1 (Fits w8) (wrapped_ones.all 32 ns ns)
  wrapped_fit =
      each_is wrapped_ones (Fits w16) (Fits w16) (Fits w8) 32 ns ns p p f f
      (λ x _ _ _. let e : x % 256 < 256 = omega arith in subst (Fits w8) (sym (and_mask x 8))
      (record { fits = e }))

pub ruleset narrow_lanes = (clamped_are, clamped_fit, wrapped_are, wrapped_fit)

-- products of bytes over a power of two, narrowed
pub products_narrowed : (k : ℕ) (policy : Policy) (xs ys : List ℕ)
    → length xs ≡ 32
    → length ys ≡ 32
    → Each1 (Fits w8) xs
    → Each1 (Fits w8) ys
    → map (narrow U8 policy) (map pos ((products k).all 32 xs ys))
    ≡ zip2 (product U8 policy k) (map pos xs) (map pos ys)
products_narrowed k policy xs ys p q f g =
    map-map (narrow U8 policy) pos ((products k).all 32 xs ys)
    ∙ pairs_are (products k) (Fits w8) (Fits w8) (λ n. narrow U8 policy (pos n)) pos pos
    (product U8 policy k) 32 xs ys p q f g
    (λ x y f g. ap (λ n. narrow U8 policy (pos n)) (product_lane x y k k refl f g))
