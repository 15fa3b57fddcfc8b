-- Thresholds in lanes: a test of each lane, and the choice of one of two bytes.
use Rattle.std.proofs.Common.{◌≡◌, ℕ, ℤ, pos, int_lt, int_le, ◌&&◌, if◌then◌else◌, List, length, map, Bool, true, false, cond, ltb, w8, w16, FitsSigned, to_z, of_z, refl, ap, ◌∙◌, arith, map-id}
use Rattle.lane_rows.proofs.Common.{zip2, Each1, ints, nat_tests, put_chunk_whole, to_z-of_z, top, common_steps, Each1-all}
use Rattle.std.proofs.lemmas.Simd.{Each1-zip2, Each2-all}
use Rattle.vx_base.specs.declared.threshold.ThresholdKind.TheVariants.{Binary, Range}
use Rattle.lane_rows.specs.Chosen as spec
use Rattle.lane_rows.proofs.ByteLaws.{where_w8, where_less}
use Rattle.lane_rows.proofs.Lanewise.{Lanewise, one, constant, each, both, chosen, items_are, numbers_are}

pick : (b : Bool) (t f : ℕ) → pos (cond b t f) ≡ (if b then pos t else pos f)
pick true t f = refl
pick false t f = refl

between : (a b : Bool) (lower upper z : ℤ) (t f : ℕ) → int_lt z lower ≡ a → int_lt upper z ≡ b
    → pos (cond a f (cond b f t)) ≡ (if int_le lower z && int_le z upper then pos t else pos f)
between true b lower upper z t f low high = grind (arith, nat_tests, ints, low)
between false true lower upper z t f low high = grind (arith, nat_tests, ints, low, high)
between false false lower upper z t f low high = grind (arith, nat_tests, ints, low, high)

-- ---- bytes

module _ (t f : ℕ) (xs : List ℕ) (p : length xs ≡ 32) where
  pub bytes_above : (limit : ℕ)
      → map pos ((where_less (constant limit) one (constant t) (constant f)).all 32 xs xs)
      ≡ map (spec.threshold_choice (Binary (pos limit)) t f) (map pos xs)
  bytes_above limit =
      items_are (where_less (constant limit) one (constant t) (constant f)) (λ _. Unit {0}) pos
      pos (spec.threshold_choice (Binary (pos limit)) t f) 32 xs p (Each1-all _ (λ _. tt) xs)
      (λ x _. ap pos (where_w8 (ltb limit x) t f) ∙ pick (ltb limit x) t f)

  pub bytes_between : (lower upper : ℕ)
      → map pos
      ((where_less one (constant lower) (constant f)
      (where_less (constant upper) one (constant f) (constant t))).all
      32 xs xs)
      ≡ map (spec.threshold_choice (Range (pos lower) (pos upper)) t f) (map pos xs)
  bytes_between lower upper =
      items_are
      (where_less one (constant lower) (constant f)
      (where_less (constant upper) one (constant f) (constant t)))
      (λ _. Unit {0}) pos pos (spec.threshold_choice (Range (pos lower) (pos upper)) t f) 32 xs
      p (Each1-all _ (λ _. tt) xs)
      (λ x _. ap pos
      (where_w8 (ltb x lower) f _ ∙ ap (λ n. cond (ltb x lower) f n) (where_w8 (ltb upper x) f t))
      ∙ between (ltb x lower) (ltb upper x) (pos lower) (pos upper) (pos x) t f refl refl)

pub ruleset byte_thresholds = (bytes_above, bytes_between)

-- ---- numbers of 16 bits

-- a mask of 16 bits, and as one of 8
abbrev less : ℕ → ℕ → ℕ
less a b = cond (int_lt (to_z w16 a) (to_z w16 b)) 65535 0

abbrev half : ℕ → ℕ
half x = of_z w8 (to_z w16 x)

abbrev where_short : Lanewise ℤ ℤ ℕ
    → Lanewise ℤ ℤ ℕ
    → Lanewise ℤ ℤ ℕ
    → Lanewise ℤ ℤ ℕ
    → Lanewise ℤ ℤ ℕ
where_short a b e f = chosen (top 7) (each half (both less (both less a b) (constant 0))) e f

abbrev row : Lanewise ℤ ℤ ℕ
row = each (of_z w16) one

mask_fits : (t : Bool) → FitsSigned w8 (to_z w16 (cond t 65535 0))
mask_fits true = record { sfits = omega arith }
mask_fits false = record { sfits = omega arith }

pub masks_fit : (ms ns : List ℕ) → Each1 (λ x. FitsSigned w8 (to_z w16 x)) (zip2 less ms ns)
masks_fit ms ns =
    Each1-zip2 less (λ x. FitsSigned w8 (to_z w16 x)) ms ns
    (Each2-all (λ x y. FitsSigned w8 (to_z w16 (less x y)))
    (λ x y. mask_fits (int_lt (to_z w16 x) (to_z w16 y))) ms ns)

where_half : (t : Bool) (a b : ℕ) → cond (top 7 (half (less (cond t 65535 0) 0))) a b ≡ cond t a b
where_half true a b = refl
where_half false a b = refl

at_lane : (x y : ℤ) (a b : ℕ)
    → FitsSigned w16 x
    → FitsSigned w16 y
    → cond (top 7 (half (less (less (of_z w16 x) (of_z w16 y)) 0))) a b ≡ cond (int_lt x y) a b
at_lane x y a b p q = rw (to_z-of_z w16 x p, to_z-of_z w16 y q) (where_half (int_lt x y) a b)

module _ (t f : ℕ) (zs : List ℤ) (p : length zs ≡ 32) (ps : Each1 (FitsSigned w16) zs) where
  pub shorts_above : (limit : ℤ)
      → FitsSigned w16 limit
      → map pos
      ((where_short (constant (of_z w16 limit)) row (constant t) (constant f)).all 32 zs zs)
      ≡ map (spec.threshold_choice (Binary limit) t f) zs
  shorts_above limit q =
      numbers_are (where_short (constant (of_z w16 limit)) row (constant t) (constant f))
      (FitsSigned w16) pos (spec.threshold_choice (Binary limit) t f) 32 zs p ps
      (λ z r. ap pos (at_lane limit z t f q r) ∙ pick (int_lt limit z) t f)

  pub shorts_between : (lower upper : ℤ) → FitsSigned w16 lower → FitsSigned w16 upper
      → map pos
      ((where_short row (constant (of_z w16 lower)) (constant f)
      (where_short (constant (of_z w16 upper)) row (constant f) (constant t))).all
      32 zs zs)
      ≡ map (spec.threshold_choice (Range lower upper) t f) zs
  shorts_between lower upper q r =
      numbers_are
      (where_short row (constant (of_z w16 lower)) (constant f)
      (where_short (constant (of_z w16 upper)) row (constant f) (constant t)))
      (FitsSigned w16) pos (spec.threshold_choice (Range lower upper) t f) 32 zs p ps
      (λ z s. ap pos
      (at_lane z lower f _ s q ∙ ap (λ n. cond (int_lt z lower) f n) (at_lane upper z f t r s))
      ∙ between (int_lt z lower) (int_lt upper z) lower upper z t f refl refl)

pub ruleset short_thresholds = (shorts_above, shorts_between, map-id)

pub ruleset stores = (common_steps, put_chunk_whole)
