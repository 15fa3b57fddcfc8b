-- Arithmetic on bytes in lanes.
use Rattle.std.proofs.Common.{◌≡◌, inl, inr, ℕ, ℤ, pos, negsuc, suc, ◌+◌, ◌-◌, ◌%◌, ◌<◌, ◌≤◌, ◌-ℤ◌, unsigned_abs, List, length, map, get_or, take_all, Bool, true, false, cond, min, max, ltb, w8, Fits, bit_and, bit_or, bit_xor, refl, ap, ◌∙◌, arith}
use Rattle.lane_rows.proofs.Common.{zip2, chunk, Each1, ints, clamps, cases_lt, U8, Wrap, Saturate, narrow, top, Each1-from_get_or}
use Rattle.vx_base.specs.Pixelwise.{sum, difference, absolute_difference, smaller, greater, and_bits, or_bits, xor_bits, not_bits}
use Rattle.lane_rows.proofs.LaneLaws.{clamp_pos, smaller_lane}
use Rattle.lane_rows.proofs.Lanewise.{Lanewise, one, other, each, both, chosen, pairs_are, items_are, same_pairs, lanes_are}

abbrev less : ℕ → ℕ → ℕ
less x y = cond (ltb x y) 255 0

abbrev pub plus : ℕ → ℕ → ℕ
plus x y = (x + y) % 256

abbrev pub minus : ℕ → ℕ → ℕ
minus x y = (x + (256 - y)) % 256

abbrev pub turned : ℕ → ℕ
turned x = 255 - x

-- a lane of e where a is less than b, and of f elsewhere
abbrev pub where_less : Lanewise ℕ ℕ ℕ
    → Lanewise ℕ ℕ ℕ
    → Lanewise ℕ ℕ ℕ
    → Lanewise ℕ ℕ ℕ
    → Lanewise ℕ ℕ ℕ
where_less a b e f = chosen (top 7) (both less a b) e f

abbrev pub smallest : Lanewise ℕ ℕ ℕ → Lanewise ℕ ℕ ℕ → Lanewise ℕ ℕ ℕ
smallest e f = where_less e f e f

abbrev pub largest : Lanewise ℕ ℕ ℕ → Lanewise ℕ ℕ ℕ → Lanewise ℕ ℕ ℕ
largest e f = where_less e f f e

-- the results for two vectors of bytes
bytes_are : (e : Lanewise ℕ ℕ ℕ) (f : ℤ → ℤ → ℤ) (xs ys : List ℕ)
    → length xs ≡ 32
    → length ys ≡ 32
    → Each1 (Fits w8) xs
    → Each1 (Fits w8) ys
    → ((x y : ℕ) → Fits w8 x → Fits w8 y → pos (e.at x y) ≡ f (pos x) (pos y))
    → map pos (e.all 32 xs ys) ≡ zip2 f (map pos xs) (map pos ys)
bytes_are e f = pairs_are e (Fits w8) (Fits w8) pos pos pos f 32

-- ---- at one lane

pub where_w8 : (t : Bool) (a b : ℕ) → cond (top 7 (cond t 255 0)) a b ≡ cond t a b
where_w8 t a b = elim t as (λ v. cond (top 7 (cond v 255 0)) a b ≡ cond v a b) [
  | true ↦ refl
  | false ↦ refl
]

smallest_at : (x y : ℕ) → cond (top 7 (less x y)) x y ≡ min x y
smallest_at x y = where_w8 (ltb x y) x y ∙ smaller_lane x y

largest_at : (x y : ℕ) → cond (top 7 (less x y)) y x ≡ max x y
largest_at x y = where_w8 (ltb x y) y x ∙ grind arith

below : (x y : ℕ) → x < y → pos x -ℤ pos y ≡ negsuc (y - suc x)
below x y small = omega (arith, ints, small)

from : (x y : ℕ) → y ≤ x → pos x -ℤ pos y ≡ pos (x - y)
from x y large = omega (arith, ints, large)

sum_clamped : (x y : ℕ)
    → Fits w8 x
    → Fits w8 y
    → pos (plus x (cond (top 7 (less y (turned x))) y (turned x))) ≡ sum U8 Saturate (pos x) (pos y)
sum_clamped x y p q =
    let a = p.fits in
    let b = q.fits in
    let e : (x + min y (255 - x)) % 256 ≡ min (x + y) 255 = omega (arith, a, b) in
    rw (smallest_at y (255 - x), e) (clamp_pos (x + y))

difference_wrapped : (x y : ℕ)
    → Fits w8 x
    → Fits w8 y
    → pos (minus x y) ≡ difference U8 Wrap (pos x) (pos y)
difference_wrapped x y p q =
    let a = p.fits in
    let b = q.fits in
    elim (cases_lt x y) [
      | inl small ↦
          (let e : (x + (256 - y)) % 256 ≡ 255 - (y - suc x) % 256 = omega (arith, a, b, small)
          in rw (below x y small) (ap pos e))
      | inr large ↦
          (let e : (x + (256 - y)) % 256
          ≡ (x - y) % 256 = omega (arith, a, b, large) in rw (from x y large) (ap pos e))
    ]

clamp_negative : (n : ℕ) → pos 0 ≡ narrow U8 Saturate (negsuc n)
clamp_negative n = grind (arith, ints, clamps)

difference_clamped : (x y : ℕ)
    → Fits w8 x
    → Fits w8 y
    → pos (minus (cond (top 7 (less x y)) y x) y) ≡ difference U8 Saturate (pos x) (pos y)
difference_clamped x y p q =
    let a = p.fits in
    let b = q.fits in
    rw (largest_at x y)
    (elim (cases_lt x y) [
      | inl small ↦
          (let e : (max x y + (256 - y)) % 256 ≡ 0 = omega (arith, a, b, small) in rw
          (below x y small, e) (clamp_negative (y - suc x)))
      | inr large ↦
          (let e : (max x y + (256 - y)) % 256 ≡ min (x - y) 255 = omega (arith, a, b, large) in
          rw (from x y large, e) (clamp_pos (x - y)))
    ])

apart : (x y : ℕ) → unsigned_abs (pos x -ℤ pos y) ≡ max x y - min x y
apart x y = elim (cases_lt x y) [
  | inl small ↦
      (let e : suc (y - suc x) ≡ max x y - min x y = omega (arith, small) in rw (below x y small) e)
  | inr large ↦ (let e : x - y ≡ max x y - min x y = omega (arith, large) in rw (from x y large) e)
]

distance_is : (x y : ℕ)
    → Fits w8 x
    → Fits w8 y
    → pos (minus (cond (top 7 (less x y)) y x) (cond (top 7 (less x y)) x y))
    ≡ absolute_difference U8 (pos x) (pos y)
distance_is x y p q =
    let a = p.fits in
    let b = q.fits in
    let e : (max x y + (256 - min x y)) % 256 ≡ min (max x y - min x y) 255 = omega (arith, a, b) in
    rw (largest_at x y, smallest_at x y, e, apart x y) (clamp_pos (max x y - min x y))

-- ---- the results for two vectors

module _ (xs ys : List ℕ) (p : length xs ≡ 32) (q : length ys ≡ 32) (f : Each1 (Fits w8) xs)
    (h : Each1 (Fits w8) ys) where
  pub sums_wrapped :
      map pos ((both plus one other).all 32 xs ys) ≡ zip2 (sum U8 Wrap) (map pos xs) (map pos ys)
  sums_wrapped = bytes_are (both plus one other) (sum U8 Wrap) xs ys p q f h (λ x y _ _. refl)

  pub sums_clamped :
      map pos ((both plus one (smallest other (each turned one))).all 32 xs ys)
      ≡ zip2 (sum U8 Saturate) (map pos xs) (map pos ys)
  sums_clamped =
      bytes_are (both plus one (smallest other (each turned one))) (sum U8 Saturate) xs ys p q f
      h sum_clamped

  pub differences_wrapped :
      map pos ((both minus one other).all 32 xs ys)
      ≡ zip2 (difference U8 Wrap) (map pos xs) (map pos ys)
  differences_wrapped =
      bytes_are (both minus one other) (difference U8 Wrap) xs ys p q f h difference_wrapped

  pub differences_clamped :
      map pos ((both minus (largest one other) other).all 32 xs ys)
      ≡ zip2 (difference U8 Saturate) (map pos xs) (map pos ys)
  differences_clamped =
      bytes_are (both minus (largest one other) other) (difference U8 Saturate) xs ys p q f h
      difference_clamped

  pub distances_are :
      map pos ((both minus (largest one other) (smallest one other)).all 32 xs ys)
      ≡ zip2 (absolute_difference U8) (map pos xs) (map pos ys)
  distances_are =
      bytes_are (both minus (largest one other) (smallest one other)) (absolute_difference U8)
      xs ys p q f h distance_is

  pub smallest_are :
      map pos ((smallest one other).all 32 xs ys) ≡ zip2 smaller (map pos xs) (map pos ys)
  smallest_are =
      bytes_are (smallest one other) smaller xs ys p q f h
      (λ x y _ _. ap pos (smallest_at x y) ∙ grind (arith, ints, clamps))

  pub largest_are :
      map pos ((largest one other).all 32 xs ys) ≡ zip2 greater (map pos xs) (map pos ys)
  largest_are =
      bytes_are (largest one other) greater xs ys p q f h
      (λ x y _ _. ap pos (largest_at x y) ∙ grind (arith, ints, clamps))

  pub least_lanes : (smallest one other).all 32 xs ys ≡ zip2 min xs ys
  least_lanes =
      lanes_are (smallest one other) (Fits w8) (Fits w8) min 32 xs ys p q f h
      (λ x y _ _. smallest_at x y)

  pub greatest_lanes : (largest one other).all 32 xs ys ≡ zip2 max xs ys
  greatest_lanes =
      lanes_are (largest one other) (Fits w8) (Fits w8) max 32 xs ys p q f h
      (λ x y _ _. largest_at x y)

pub ands_are : (xs ys : List ℕ)
    → map pos (zip2 bit_and xs ys) ≡ zip2 and_bits (map pos xs) (map pos ys)
ands_are = same_pairs pos pos pos bit_and and_bits (λ x y. refl)

pub ors_are : (xs ys : List ℕ)
    → map pos (zip2 bit_or xs ys) ≡ zip2 or_bits (map pos xs) (map pos ys)
ors_are = same_pairs pos pos pos bit_or or_bits (λ x y. refl)

pub xors_are : (xs ys : List ℕ)
    → map pos (zip2 bit_xor xs ys) ≡ zip2 xor_bits (map pos xs) (map pos ys)
xors_are = same_pairs pos pos pos bit_xor xor_bits (λ x y. refl)

pub turned_are : (xs : List ℕ)
    → length xs ≡ 32
    → ((i : ℕ) → Fits w8 (get_or xs i 0))
    → map pos (map turned (chunk 0 32 xs)) ≡ map not_bits (map pos xs)
turned_are xs p f =
    ap (λ l. map pos (map turned l)) (take_all 32 xs (omega (arith, p)))
    ∙ items_are (each turned one) (Fits w8) pos pos not_bits 32 xs p
    (Each1-from_get_or (Fits w8) xs 0 (λ i _. f i))
    (λ x q. let e = q.fits in omega (arith, ints, e))

pub ruleset sum_lanes = (sums_wrapped, sums_clamped)

pub ruleset difference_lanes = (differences_wrapped, differences_clamped)

pub ruleset extreme_lanes = (smallest_are, largest_are)

pub ruleset rank_lanes = (least_lanes, greatest_lanes)

pub ruleset bit_lanes = (ands_are, ors_are, xors_are, turned_are)
