-- Lanes of one width from those of another, by way of their bytes.
use Rattle.std.proofs.Common.{◌≡◌, ℕ, zero, suc, ◌+◌, ◌*◌, ◌/◌, ◌%◌, ◌<◌, List, [], ◌∷◌, length, refl, ap, ◌∙◌, subst, arith}
use Rattle.lane_rows.proofs.Common.{Each1, number_l, digits_l, mod-eq_of_lt, div-eq_of_lt}
use Rattle.std.proofs.Math.Nat.{add-mul-mod_self_left, add-mul-div_left, mod-add-div, div-lt_iff_lt-mul}
use Rattle.std.proofs.Math.Arith.{digits_lt}

-- the number of values that n digits of a base represent
abbrev pub weight : ℕ → ℕ → ℕ
weight b zero = 1
weight b (suc n) = weight b n * b

number_of_digits : (b n x : ℕ) → 0 < b → x < weight b n → number_l b (digits_l b n x) ≡ x
number_of_digits b zero x some small = let e : x < 1 = small in omega (arith, e)
number_of_digits b (suc n) x some small =
    let room : x / b < weight b n = (div-lt_iff_lt-mul some).1 small in
    ap (λ y. x % b + b * y) (number_of_digits b n (x / b) some room) ∙ mod-add-div x b

digits_of_number : (b n : ℕ) (xs : List ℕ)
    → length xs ≡ n
    → Each1 (λ x. x < b) xs
    → digits_l b n (number_l b xs) ≡ xs
digits_of_number b zero [] long all = refl
digits_of_number b (suc n) [] long all = absurd (omega (arith, long))
digits_of_number b zero (x ∷ xs) long all = absurd (omega (arith, long))
digits_of_number b (suc n) (x ∷ xs) long all =
    let small : x < b = all.0 in
    let first : (x + b * number_l b xs) % b ≡ x =
    add-mul-mod_self_left x b (number_l b xs) ∙ mod-eq_of_lt small in
    let none : x / b + number_l b xs ≡ number_l b xs = let e = div-eq_of_lt small in
    omega (arith, e) in
    let rest : (x + b * number_l b xs) / b ≡ number_l b xs =
    add-mul-div_left x (number_l b xs) (omega (arith, small)) ∙ none in
    cc (first, ap (digits_l b n) rest ∙ digits_of_number b n xs (omega (arith, long)) all.1)

pub number_below : (b : ℕ) (xs : List ℕ)
    → Each1 (λ x. x < b) xs
    → number_l b xs < weight b (length xs)
number_below b [] all = let e : 0 < 1 = omega arith in e
number_below b (x ∷ xs) all =
    let e : number_l b xs * b + x < weight b (length xs) * b =
    digits_lt (number_below b xs all.1) all.0 in
    omega (arith, e)

-- lanes of base p that are the same number as lanes of base q
pub recast : (p q m n : ℕ) (xs ys : List ℕ)
    → number_l p xs ≡ number_l q ys
    → length ys ≡ n
    → Each1 (λ y. y < q) ys
    → weight q n ≡ weight 256 m
    → digits_l q n (number_l 256 (digits_l 256 m (number_l p xs))) ≡ ys
recast p q m n xs ys same long all even =
    let room : number_l q ys < weight 256 m =
    subst (λ k. number_l q ys < k) (ap (weight q) long ∙ even) (number_below q ys all) in
    rw (
      same,
      number_of_digits 256 m (number_l q ys) (omega arith) room,
    ) (digits_of_number q n ys long all)
