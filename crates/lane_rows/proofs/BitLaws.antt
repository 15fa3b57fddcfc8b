-- Signed lanes as bits, and their arithmetic modulo 2 ^ 32.
use Rattle.std.proofs.Common.{◌≡◌, ℕ, ℤ, pos, zero, suc, ◌+◌, ◌*◌, ◌%◌, ◌<◌, List, [], ◌∷◌, ◌++◌, map, get_or, refl, ap, ◌∙◌, sym, arith, w16, w32, FitsSigned, to_z, of_z, ◌+ℤ◌, ◌*ℤ◌}
use Rattle.lane_rows.proofs.Common.{pick_l, to_z-of_z, map-append, Width}
use Rattle.std.specs.Int.{int_wrap}
use Rattle.std.proofs.lemmas.Int.{of_z-to_z, wrapping_add_is, wrapping_mul_is, int_wrap-add_left, int_wrap-add_right, SFits-int_wrap}
pub use Rattle.lane_rows.proofs.QuarterLaws.{Each1-append}
use Rattle.lane_rows.proofs.ShortLaws.{wider, widened}

-- ---- lanes at positions

get_bits : (w : Width) (xs : List ℤ) (k : ℕ)
    → 0 ≡ of_z w (pos 0)
    → get_or (map (of_z w) xs) k 0 ≡ of_z w (get_or xs k (pos 0))
get_bits w [] k none = none
get_bits w (x ∷ xs) zero none = refl
get_bits w (x ∷ xs) (suc k) none = get_bits w xs k none

pick_bits : (w : Width) (xs : List ℤ) (ks : List ℕ)
    → 0 ≡ of_z w (pos 0)
    → pick_l 0 (map (of_z w) xs) ks ≡ map (of_z w) (pick_l (pos 0) xs ks)
pick_bits w xs [] none = refl
pick_bits w xs (k ∷ ks) none = cc (get_bits w xs k none, pick_bits w xs ks none)

-- positions in two vectors, one after the other
pub picked : (w : Width) (xs ys : List ℤ) (ks : List ℕ)
    → 0 ≡ of_z w (pos 0)
    → pick_l 0 (map (of_z w) xs ++ map (of_z w) ys) ks ≡ map (of_z w) (pick_l (pos 0) (xs ++ ys) ks)
picked w xs ys ks none =
    ap (λ l. pick_l 0 l ks) (sym (map-append (of_z w) xs ys)) ∙ pick_bits w (xs ++ ys) ks none

-- ---- modulo 2 ^ 32

-- the 32 bits of a number
abbrev pub bits_of : ℤ → ℕ
bits_of z = of_z w32 (int_wrap w32 z)

pub read_bits : (z : ℤ) → to_z w32 (bits_of z) ≡ int_wrap w32 z
read_bits z = to_z-of_z w32 (int_wrap w32 z) (SFits-int_wrap w32 z)

bits_are : (n : ℕ) (z : ℤ) → to_z w32 (n % 4294967296) ≡ int_wrap w32 z → n % 4294967296 ≡ bits_of z
bits_are n z is =
    let less : n % 4294967296 < 4294967296 = omega arith in
    sym (of_z-to_z w32 (n % 4294967296) less) ∙ ap (of_z w32) is

pub plus_bits : (x y : ℤ) → (bits_of x + bits_of y) % 4294967296 ≡ bits_of (x +ℤ y)
plus_bits x y =
    bits_are (bits_of x + bits_of y) (x +ℤ y)
    (wrapping_add_is w32 (int_wrap w32 x) (int_wrap w32 y) (SFits-int_wrap w32 x)
    (SFits-int_wrap w32 y) ∙ int_wrap-add_left w32 x (int_wrap w32 y) ∙ int_wrap-add_right w32 x
    y)

-- a cast to wider lanes keeps the numbers
abbrev pub wide : ℕ → ℕ
wide a = of_z w32 (to_z w16 a)

pub times_bits : (x y : ℤ)
    → FitsSigned w16 x
    → FitsSigned w16 y
    → (wide (of_z w16 x) * wide (of_z w16 y)) % 4294967296 ≡ bits_of (x *ℤ y)
times_bits x y p q =
    rw (widened x p, widened y q)
    (bits_are (of_z w32 x * of_z w32 y) (x *ℤ y) (wrapping_mul_is w32 x y (wider x p) (wider y q)))
