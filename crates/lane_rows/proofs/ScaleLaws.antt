-- Numbers over a power of two, rounded to zero.
use Rattle.std.proofs.Common.{◌≡◌, Bool, true, false, cond, inl, inr, ℕ, ℤ, pos, negsuc, suc, ◌+◌, ◌-◌, ◌*◌, ◌/◌, ◌%◌, ◌^◌, ◌<◌, ◌≤◌, ◌+ℤ◌, int_lt, int_div, List, length, map, FitsSigned, w32, to_z, of_z, refl, ap, ◌∙◌, sym, subst, arith, pow_pos}
use Rattle.lane_rows.proofs.Common.{shr_z, cases_lt, nat_tests, ints, to_z-of_z, to_z_pos, int_wrap_fits, div-eq_of_lt, Each1, top}
use Rattle.std.proofs.lemmas.Int.{wrapping_add_is}
use Rattle.std.proofs.Math.Pow.{pow_mono}
use Rattle.lane_rows.proofs.Lanewise.{Lanewise, one, constant, each, both, chosen, numbers_are}
use Rattle.std.specs.Int.Signed.{mag_shr}
use Rattle.std.proofs.Math.IntN.{neg_ℤ}
use Rattle.std.proofs.Math.Nat.{div-eq-sub-div}

-- ---- rounded down after p - 1 is added

near : (a p : ℕ) → suc a < p → shr_z (negsuc a +ℤ pos (p - 1)) p ≡ int_div (negsuc a) (pos p)
near a p small =
    let e : negsuc a +ℤ pos (p - 1) ≡ pos (p - 1 - suc a) = omega (arith, ints, small) in
    let left : (p - 1 - suc a) / p ≡ 0 = div-eq_of_lt (omega (arith, small)) in
    let right : suc a / p ≡ 0 = div-eq_of_lt small in
    rw (e, left, right) refl

far : (a p : ℕ) → 0 < p → p ≤ suc a → shr_z (negsuc a +ℤ pos (p - 1)) p ≡ int_div (negsuc a) (pos p)
far a p some large =
    let e : negsuc a +ℤ pos (p - 1) ≡ negsuc (suc a - p) = omega (arith, ints, some, large) in
    let less : suc a / p ≡ (suc a - p) / p + 1 = div-eq-sub-div some large in
    let next : suc a / p ≡ suc ((suc a - p) / p) = omega (arith, less) in
    ap (λ z. shr_z z p) e ∙ sym (ap (λ n. neg_ℤ (pos n)) next)

pub below_zero : (z : ℤ) (p : ℕ)
    → int_lt z (pos 0) ≡ true
    → 0 < p
    → shr_z (z +ℤ pos (p - 1)) p ≡ int_div z (pos p)
below_zero (pos a) p below some = absurd (grind (arith, nat_tests, below))
below_zero (negsuc a) p below some = elim (cases_lt (suc a) p) [
  | inl small ↦ near a p small
  | inr large ↦ far a p some large
]

pub from_zero : (z : ℤ) (p : ℕ)
    → int_lt z (pos 0) ≡ false
    → shr_z (z +ℤ pos 0) p ≡ int_div z (pos p)
from_zero (pos a) p above =
    let e : pos a +ℤ pos 0 ≡ pos a = omega (arith, ints) in ap (λ z. shr_z z p) e
from_zero (negsuc a) p above = absurd (cc above)

-- ---- in 32 bits

pub shift_fits : (z : ℤ) (p : ℕ) → FitsSigned w32 z → FitsSigned w32 (shr_z z p)
shift_fits z p f = let e = mag_shr z p in record { sfits = omega (arith, e, f.sfits) }

raised_fits : (z : ℤ) (n : ℕ)
    → int_lt z (pos 0) ≡ true
    → FitsSigned w32 z
    → n < 2147483648
    → FitsSigned w32 (z +ℤ pos n)
raised_fits (pos a) n below f small = absurd (grind (arith, nat_tests, below))
raised_fits (negsuc a) n below f small = elim (cases_lt n (suc a)) [
  | inl less ↦
      (let e : negsuc a +ℤ pos n ≡ negsuc (a - n) = omega (arith, ints, less) in subst
      (FitsSigned w32) (sym e) (record { sfits = omega (arith, f.sfits) }))
  | inr more ↦
      (let e : negsuc a +ℤ pos n ≡ pos (n - suc a) = omega (arith, ints, more) in subst
      (FitsSigned w32) (sym e) (record { sfits = omega (arith, small) }))
]

power_small : (k : ℕ) → k ≤ 31 → 2 ^ k - 1 < 2147483648
power_small k few =
    let some : 0 < 2 ^ k = pow_pos k in
    let small : 2 ^ k ≤ 2147483648 = pow_mono few in
    omega (arith, some, small)

-- 1 shifted up, less 1
ones_left : (k : ℕ) → k ≤ 31 → 1 * 2 ^ k % 4294967296 - 1 ≡ 2 ^ k - 1
ones_left k few = let small : 2 ^ k ≤ 2147483648 = pow_mono few in omega (arith, small)

-- a number below 0, raised before it is shifted
pub below_scaled : (z : ℤ) (k : ℕ) → FitsSigned w32 z → k ≤ 31 → int_lt z (pos 0) ≡ true
    → to_z w32
    (of_z w32
    (shr_z
    (to_z w32 (of_z w32 (to_z w32 (of_z w32 z) +ℤ to_z w32 (1 * 2 ^ k % 4294967296 - 1))))
    (2 ^ k)))
    ≡ int_div z (pos (2 ^ k))
below_scaled z k f few below =
    let sum = z +ℤ pos (2 ^ k - 1) in
    let fits : FitsSigned w32 sum = raised_fits z (2 ^ k - 1) below f (power_small k few) in
    rw (
      to_z-of_z w32 z f,
      ap (to_z w32) (ones_left k few) ∙ to_z_pos w32 (2 ^ k - 1) (power_small k few),
      to_z-of_z w32 sum fits,
      to_z-of_z w32 (shr_z sum (2 ^ k)) (shift_fits sum (2 ^ k) fits),
    ) (below_zero z (2 ^ k) below (pow_pos k))

-- ---- in lanes

abbrev bits : Lanewise ℤ ℤ ℕ
bits = each (of_z w32) one

abbrev less : ℕ → ℕ → ℕ
less a b = cond (int_lt (to_z w32 a) (to_z w32 b)) 4294967295 0

abbrev pub scaled : ℕ → ℕ → Lanewise ℤ ℤ ℕ
scaled rest s =
    both (λ a b. of_z w32 (shr_z (to_z w32 a) (2 ^ b)))
    (both (λ a b. (a + b) % 4294967296) bits
    (chosen (top 31) (both less bits (constant 0)) (constant rest) (constant 0)))
    (constant s)

summed : (x y : ℤ) (p : ℕ) → FitsSigned w32 x → FitsSigned w32 y → FitsSigned w32 (x +ℤ y)
    → to_z w32 (of_z w32 (shr_z (to_z w32 ((of_z w32 x + of_z w32 y) % 4294967296)) p))
    ≡ shr_z (x +ℤ y) p
summed x y p f g h =
    rw (
      wrapping_add_is w32 x y f g,
      int_wrap_fits w32 (x +ℤ y) h,
    ) (to_z-of_z w32 (shr_z (x +ℤ y) p) (shift_fits (x +ℤ y) p h))

scaled_by : (b : Bool) (z : ℤ) (k : ℕ) → int_lt z (pos 0) ≡ b → FitsSigned w32 z → k ≤ 31
    → to_z w32
    (of_z w32
    (shr_z
    (to_z w32
    ((of_z w32 z + cond (top 31 (cond b 4294967295 0)) (of_z w32 (pos (2 ^ k - 1))) 0) %
    4294967296))
    (2 ^ k)))
    ≡ int_div z (pos (2 ^ k))
scaled_by true z k below f few =
    let small = power_small k few in
    summed z (pos (2 ^ k - 1)) (2 ^ k) f (record { sfits = small })
    (raised_fits z (2 ^ k - 1) below f small)
    ∙ below_zero z (2 ^ k) below (pow_pos k)
scaled_by false z k above f few =
    let same : z ≡ z +ℤ pos 0 = omega (arith, ints) in
    summed z (pos 0) (2 ^ k) f (record { sfits = omega arith }) (subst (FitsSigned w32) same f)
    ∙ from_zero z (2 ^ k) above

pub scaled_are : (k s : ℕ) (zs : List ℤ)
    → s ≡ k
    → k ≤ 31
    → length zs ≡ 16
    → Each1 (FitsSigned w32) zs
    → map (to_z w32) ((scaled (1 * 2 ^ k % 4294967296 - 1) s).all 16 zs zs)
    ≡ map (λ z. int_div z (pos (2 ^ k))) zs
scaled_are k s zs is few long fits =
    numbers_are (scaled (1 * 2 ^ k % 4294967296 - 1) s) (FitsSigned w32) (to_z w32)
    (λ z. int_div z (pos (2 ^ k))) 16 zs long fits
    (λ z f. rw (ones_left k few, is, to_z-of_z w32 z f)
    (scaled_by (int_lt z (pos 0)) z k refl f few))
