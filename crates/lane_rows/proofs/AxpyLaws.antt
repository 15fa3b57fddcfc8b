-- Coefficients times bytes that are added to sums, in lanes.
use Rattle.std.proofs.Common.{◌≡◌, ℕ, ℤ, pos, ◌+◌, ◌*◌, ◌%◌, ◌<◌, ◌≤◌, List, [], ◌∷◌, length, map, refl, ap, ◌∙◌, subst, arith, w8, w16, w32, FitsSigned, Fits, to_z, of_z, ◌+ℤ◌, ◌*ℤ◌, unsigned_abs, map-id}
use Rattle.lane_rows.proofs.Common.{zip2, Each1, ints, to_z-of_z, int_wrap_fits, fits_signed_from_abs}
use Rattle.std.specs.Int.{int_wrap}
use Rattle.std.proofs.lemmas.Int.{wrapping_add_is, unsigned_abs-mul}
use Rattle.std.proofs.lemmas.Nat.{mul-le}
use Rattle.lane_rows.specs.Axpy.{FitsProduct, with_product}
use Rattle.lane_rows.proofs.Lanewise.{Lanewise, one, other, constant, each, both, pairs_are}
use Rattle.lane_rows.proofs.ShortLaws.{abs_16, wider, times_lane}

pub product_fits : (k : ℤ) (a : ℕ)
    → FitsSigned w16 k
    → a < 256
    → (unsigned_abs (k *ℤ pos a) ≤ 8355840) × FitsSigned w32 (k *ℤ pos a)
product_fits k a fits small =
    let bound : unsigned_abs k * a ≤ 32768 * 255 =
    mul-le (unsigned_abs k) a 32768 255 (abs_16 k fits) (omega arith) in
    let size : unsigned_abs (k *ℤ pos a) ≤ 8355840 =
    rw (unsigned_abs-mul k (pos a)) (omega (arith, bound)) in
    (size, fits_signed_from_abs w32 (k *ℤ pos a) (omega (arith, size)))

turned : (x y : ℤ) → x *ℤ y ≡ y *ℤ x
turned x y = grind (arith, ints)

-- the bits of a sum, and of a coefficient times a byte
abbrev pub after : ℕ → Lanewise ℕ ℤ ℕ
after k =
    both (λ a b. (a + b) % 4294967296) (each (of_z w32) other)
    (both (λ a b. (a * b) % 4294967296) (each (λ a. a) one) (constant k))

lane : (k s : ℤ) (a : ℕ)
    → FitsSigned w16 k
    → Fits w8 a
    → FitsSigned w32 s
    → to_z w32 ((of_z w32 s + (a * of_z w32 k) % 4294967296) % 4294967296)
    ≡ int_wrap w32 (s +ℤ k *ℤ pos a)
lane k s a fits byte s_fits =
    let p = (product_fits k a fits byte.fits).1 in
    let a_fits : FitsSigned w32 (pos a) = record { sfits = omega (arith, byte.fits) } in
    ap (λ n. to_z w32 ((of_z w32 s + n) % 4294967296))
    (times_lane (pos a) k a_fits (wider k fits) (subst (FitsSigned w32) (turned k (pos a)) p)
    ∙ ap (of_z w32) (turned (pos a) k))
    ∙ wrapping_add_is w32 s (k *ℤ pos a) s_fits p

-- one by one
pub added_one : (k s g h : ℤ) (a : ℕ)
    → g ≡ k
    → h ≡ pos a
    → FitsSigned w16 k
    → a < 256
    → FitsSigned w32 s
    → to_z w32
    ((of_z w32 s + of_z w32 (to_z w32 (of_z w32 g) *ℤ to_z w32 (of_z w32 h))) % 4294967296)
    ≡ int_wrap w32 (s +ℤ k *ℤ pos a)
added_one k s g h a one two fits small s_fits =
    let a_fits : FitsSigned w32 (pos a) = record { sfits = omega (arith, small) } in
    rw (
      one,
      two,
      to_z-of_z w32 k (wider k fits),
      to_z-of_z w32 (pos a) a_fits,
    ) (wrapping_add_is w32 s (k *ℤ pos a) s_fits (product_fits k a fits small).1)

-- sixteen of them
pub sixteen_added : (k : ℤ) (bits : ℕ) (row : List ℕ) (sums : List ℤ)
    → bits ≡ of_z w32 k
    → FitsSigned w16 k
    → length row ≡ 16
    → length sums ≡ 16
    → Each1 (Fits w8) row
    → Each1 (FitsSigned w32) sums
    → map (to_z w32) ((after bits).all 16 row sums)
    ≡ zip2 (λ a s. int_wrap w32 (s +ℤ k *ℤ a)) (map pos row) sums
sixteen_added k bits row sums is fits p q bytes s_fits =
    pairs_are (after bits) (Fits w8) (FitsSigned w32) (to_z w32) pos (λ z. z)
    (λ a s. int_wrap w32 (s +ℤ k *ℤ a)) 16 row sums p q bytes s_fits
    (λ a s f g. ap (λ n. to_z w32 ((of_z w32 s + (a * n) % 4294967296) % 4294967296)) is
    ∙ lane k s a fits f g)
    ∙ ap (zip2 (λ a s. int_wrap w32 (s +ℤ k *ℤ a)) (map pos row)) (map-id sums)

-- no sum within its bound wraps
pub none_wraps : (k : ℤ) (row : List ℕ) (sums : List ℤ)
    → FitsSigned w16 k
    → Each1 (Fits w8) row
    → Each1 FitsProduct sums
    → zip2 (λ a s. int_wrap w32 (s +ℤ k *ℤ a)) (map pos row) sums
    ≡ zip2 (with_product k) (map pos row) sums
none_wraps k [] sums fits bytes room = refl
none_wraps k (a ∷ row) [] fits bytes room = refl
none_wraps k (a ∷ row) (s ∷ sums) fits bytes room =
    let size = (product_fits k a fits bytes.0.fits).0 in
    let near : unsigned_abs (s +ℤ k *ℤ pos a) ≤ 2147483647 = omega (arith, ints, size, room.0) in
    cc (
      int_wrap_fits w32 (s +ℤ k *ℤ pos a)
          (fits_signed_from_abs w32 (s +ℤ k *ℤ pos a) (omega (arith, near))),
      none_wraps k row sums fits bytes.1 room.1,
    )
