-- Numbers of 16 bits in lanes: their products in 32 bits.
use Rattle.std.proofs.Common.{rules, ◌≡◌, ℕ, ℤ, pos, negsuc, ◌+◌, ◌*◌, ◌/◌, ◌%◌, ◌^◌, ◌<◌, ◌≤◌, List, [], ◌∷◌, ◌++◌, map, length, take, take_all, refl, ap, ◌∙◌, sym, subst, arith, w16, w32, FitsSigned, to_z, of_z, ◌*ℤ◌, unsigned_abs}
use Rattle.lane_rows.proofs.Common.{shr_z, range_with_len, zip2, Each1, pick_l, number_l, digits_l, ints, to_z-of_z, int_wrap_fits, fits_signed_from_abs, length-zip2, length-map, swap_quarters, Width}
use Rattle.std.proofs.lemmas.Int.{of_z-to_z, wrapping_mul_is, unsigned_abs-mul}
use Rattle.std.proofs.lemmas.Nat.{mul-le, mul-mod}
use Rattle.std.proofs.Math.Facts.{Fits-of_z}
use Rattle.lane_rows.proofs.ScaleLaws.{shift_fits}
use Rattle.lane_rows.proofs.DigitLaws.{recast}
use Rattle.lane_rows.proofs.Lanewise.{Lanewise, one, other, constant, each, both, lanes_are, each_is, each_of, map-zip2, length-all}
use Rattle.lane_rows.proofs.QuarterLaws.{written_out, length-exchanged, exchanged-map, exchanged-zip2, Each1-exchanged, exchanged_in_lanes}
use mir.Val.{bits}

-- ---- lanes as bits

-- numbers that fit can be read back from their bits
pub of_bits : (w : Width) (xs : List ℤ)
    → Each1 (FitsSigned w) xs
    → map (to_z w) (map (of_z w) xs) ≡ xs
of_bits w [] ps = refl
of_bits w (x ∷ xs) ps = cc (to_z-of_z w x ps.0, of_bits w xs ps.1)

pub fit_as_bits : (w : Width) (xs : List ℤ)
    → Each1 (FitsSigned w) xs
    → Each1 (FitsSigned w) (map (to_z w) (map (of_z w) xs))
fit_as_bits w xs ps = subst (Each1 (FitsSigned w)) (sym (of_bits w xs ps)) ps

pub ruleset read_bits = (of_bits, fit_as_bits)

-- lanes equal to numbers that fit can be read back from their bits
pub bits_back : (w : Width) (xs ys : List ℤ)
    → xs ≡ ys
    → Each1 (FitsSigned w) ys
    → map (to_z w) (map (of_z w) xs) ≡ ys
bits_back w xs ys is fits = ap (λ l. map (to_z w) (map (of_z w) l)) is ∙ of_bits w ys fits

-- all items of a row, read back from their bits
pub read_whole : (w : Width) (n : ℕ) (xs : List ℤ)
    → length xs ≡ n
    → Each1 (FitsSigned w) xs
    → (map (to_z w) (map (of_z w) (take n xs)) ≡ xs)
    × Each1 (FitsSigned w) (map (to_z w) (map (of_z w) (take n xs)))
read_whole w n xs long fits =
    let is = bits_back w (take n xs) xs (take_all n xs (omega (arith, long))) fits in
    (is, subst (Each1 (FitsSigned w)) (sym is) fits)

-- ---- two lists, an item of each in turn

abbrev weave : List ℕ → List ℕ → List ℕ
weave [] ys = []
weave (x ∷ xs) [] = []
weave (x ∷ xs) (y ∷ ys) = x ∷ y ∷ weave xs ys

abbrev turns : List ℕ
turns =
    0
    ∷ 16
    ∷ 1
    ∷ 17
    ∷ 2
    ∷ 18
    ∷ 3
    ∷ 19
    ∷ 8
    ∷ 24
    ∷ 9
    ∷ 25
    ∷ 10
    ∷ 26
    ∷ 11
    ∷ 27
    ∷ 4
    ∷ 20
    ∷ 5
    ∷ 21
    ∷ 6
    ∷ 22
    ∷ 7
    ∷ 23
    ∷ 12
    ∷ 28
    ∷ 13
    ∷ 29
    ∷ 14
    ∷ 30
    ∷ 15
    ∷ 31
    ∷ []

woven : (xs ys : List ℕ)
    → length xs ≡ 16
    → length ys ≡ 16
    → pick_l 0 (xs ++ ys) turns ≡ weave (swap_quarters xs) (swap_quarters ys)
woven xs ys p q =
    written_out 0 (λ u. pick_l 0 (u ++ ys) turns ≡ weave (swap_quarters u) (swap_quarters ys)) xs p
    (written_out 0
    (λ v. pick_l 0 (pick_l 0 xs (range_with_len 0 16) ++ v) turns
    ≡ weave (swap_quarters (pick_l 0 xs (range_with_len 0 16))) (swap_quarters v))
    ys q refl)

-- ---- numbers of digits

joined : (xs ys : List ℕ)
    → number_l 65536 (weave xs ys) ≡ number_l 4294967296 (zip2 (λ x y. x + 65536 * y) xs ys)
joined [] ys = refl
joined (x ∷ xs) [] = refl
joined (x ∷ xs) (y ∷ ys) = let e = joined xs ys in omega (arith, e)

-- ---- one product

pub wider : (x : ℤ) → FitsSigned w16 x → FitsSigned w32 x
wider x p = search (rules, ints)

pub abs_16 : (x : ℤ) → FitsSigned w16 x → unsigned_abs x ≤ 32768
abs_16 x p = first_of (omega (arith, ints), search (rules, ints), grind (arith, ints))

pub product_size : (a b : ℤ)
    → FitsSigned w16 a
    → FitsSigned w16 b
    → unsigned_abs (a *ℤ b) ≤ 1073741824
product_size a b p q =
    let bound : unsigned_abs a * unsigned_abs b ≤ 32768 * 32768 =
    mul-le (unsigned_abs a) (unsigned_abs b) 32768 32768 (abs_16 a p) (abs_16 b q) in
    rw (unsigned_abs-mul a b) (omega (arith, bound))

pub size_fits : (z : ℤ) → unsigned_abs z ≤ 1073741824 → FitsSigned w32 z
size_fits z small = fits_signed_from_abs w32 z (omega (arith, small))

pub times_lane : (x y : ℤ)
    → FitsSigned w32 x
    → FitsSigned w32 y
    → FitsSigned w32 (x *ℤ y)
    → (of_z w32 x * of_z w32 y) % 4294967296 ≡ of_z w32 (x *ℤ y)
times_lane x y p q r =
    let less : (of_z w32 x * of_z w32 y) % 4294967296 < 4294967296 = omega arith in
    sym (of_z-to_z w32 ((of_z w32 x * of_z w32 y) % 4294967296) less)
    ∙ ap (of_z w32) (wrapping_mul_is w32 x y p q ∙ int_wrap_fits w32 (x *ℤ y) r)

low_bits : (x : ℤ) → FitsSigned w16 x → of_z w32 x % 65536 ≡ of_z w16 x
low_bits (pos n) p = let e = p.sfits in omega (arith, e)
low_bits (negsuc n) p = let e = p.sfits in omega (arith, e)

high_of : (z : ℤ) → FitsSigned w32 z → of_z w16 (shr_z z 65536) ≡ of_z w32 z / 65536
high_of (pos n) p = refl
high_of (negsuc n) p = let e = p.sfits in omega (arith, e)

high_bits : (z : ℤ)
    → FitsSigned w32 z
    → of_z w16 (to_z w32 (of_z w32 (shr_z (to_z w32 (of_z w32 z)) 65536))) ≡ of_z w32 z / 65536
high_bits z p =
    rw (to_z-of_z w32 z p, to_z-of_z w32 (shr_z z 65536) (shift_fits z 65536 p)) (high_of z p)

-- the bits of a number of 16 bits in 32
pub widened : (a : ℤ) → FitsSigned w16 a → of_z w32 (to_z w16 (of_z w16 a)) ≡ of_z w32 a
widened a p = ap (of_z w32) (to_z-of_z w16 a p)

product_bits : (a b : ℤ)
    → FitsSigned w16 a
    → FitsSigned w16 b
    → (of_z w32 (to_z w16 (of_z w16 a)) * of_z w32 (to_z w16 (of_z w16 b))) % 4294967296
    ≡ of_z w32 (a *ℤ b)
product_bits a b p q =
    rw (widened a p, widened b q)
    (times_lane a b (wider a p) (wider b q) (size_fits (a *ℤ b) (product_size a b p q)))

low_half : (a b : ℤ)
    → FitsSigned w16 a
    → FitsSigned w16 b
    → (of_z w16 a * of_z w16 b) % 65536 ≡ of_z w32 (a *ℤ b) % 65536
low_half a b p q =
    rw (
      ← low_bits a p,
      ← low_bits b q,
      ← mul-mod (of_z w32 a) (of_z w32 b) 65536,
      ← times_lane a b (wider a p) (wider b q) (size_fits (a *ℤ b) (product_size a b p q)),
    )
    (omega arith)

high_half : (a b : ℤ) → FitsSigned w16 a → FitsSigned w16 b
    → of_z w16
    (to_z w32
    (of_z w32
    (shr_z
    (to_z w32 ((of_z w32 (to_z w16 (of_z w16 a)) * of_z w32 (to_z w16 (of_z w16 b))) % 4294967296))
    65536)))
    ≡ of_z w32 (a *ℤ b) / 65536
high_half a b p q =
    rw (product_bits a b p q) (high_bits (a *ℤ b) (size_fits (a *ℤ b) (product_size a b p q)))

two_halves : (a b : ℤ) → FitsSigned w16 a → FitsSigned w16 b
    → (of_z w16 a * of_z w16 b) % 65536 + 65536 * of_z w16
    (to_z w32
    (of_z w32
    (shr_z
    (to_z w32 ((of_z w32 (to_z w16 (of_z w16 a)) * of_z w32 (to_z w16 (of_z w16 b))) % 4294967296))
    65536)))
    ≡ of_z w32 (a *ℤ b)
two_halves a b p q = rw (low_half a b p q, high_half a b p q) (omega arith)

-- ---- all of them

-- the lower 16 bits of the products; the products in 32 bits, shifted; the upper 16 bits
abbrev lows : Lanewise ℤ ℤ ℕ
lows = both (λ x y. (x * y) % 65536) (each (of_z w16) one) (each (of_z w16) other)

abbrev pub shifted : Lanewise ℤ ℤ ℕ
shifted =
    both (λ z k. of_z w32 (shr_z (to_z w32 z) (2 ^ k)))
    (both (λ x y. (x * y) % 4294967296)
    (each (λ x. of_z w32 (to_z w16 x)) (each (of_z w16) one))
    (each (λ x. of_z w32 (to_z w16 x)) (each (of_z w16) other)))
    (constant 16)

abbrev highs : Lanewise ℤ ℤ ℕ
highs = each (λ z. of_z w16 (to_z w32 z)) shifted

halves_joined : (us vs : List ℤ)
    → length us ≡ 16
    → length vs ≡ 16
    → Each1 (FitsSigned w16) us
    → Each1 (FitsSigned w16) vs
    → zip2 (λ x y. x + 65536 * y) (lows.all 16 us vs) (highs.all 16 us vs)
    ≡ map (of_z w32) (zip2 ◌*ℤ◌ us vs)
halves_joined us vs p q f g =
    lanes_are (both (λ x y. x + 65536 * y) lows highs) (FitsSigned w16) (FitsSigned w16)
    (λ a b. of_z w32 (a *ℤ b)) 16 us vs p q f g two_halves
    ∙ sym (map-zip2 (of_z w32) ◌*ℤ◌ us vs)

pub products_fit : (us vs : List ℤ)
    → Each1 (FitsSigned w16) us
    → Each1 (FitsSigned w16) vs
    → Each1 (FitsSigned w32) (zip2 ◌*ℤ◌ us vs)
products_fit us vs f g =
    each_of (FitsSigned w16) (FitsSigned w16) (FitsSigned w32) ◌*ℤ◌ us vs f g
    (λ a b p q. size_fits (a *ℤ b) (product_size a b p q))

each_below : (w : Width) (zs : List ℤ)
    → Each1 (FitsSigned w) zs
    → Each1 (λ x. x < 2 ^ bits w) (map (of_z w) zs)
each_below w [] f = tt
each_below w (z ∷ zs) f = (let fits = Fits-of_z f.0 in fits.fits, each_below w zs f.1)

-- the high halves fit
shifted_fits : (z : ℤ) → unsigned_abs z ≤ 1073741824 → FitsSigned w16 (shr_z z 65536)
shifted_fits (pos n) small = record { sfits = omega (arith, small) }
shifted_fits (negsuc n) small = record { sfits = omega (arith, small) }

high_fits : (a b : ℤ)
    → FitsSigned w16 a
    → FitsSigned w16 b
    → FitsSigned w16
    (to_z w32
    (of_z w32
    (shr_z
    (to_z w32 ((of_z w32 (to_z w16 (of_z w16 a)) * of_z w32 (to_z w16 (of_z w16 b))) % 4294967296))
    65536)))
high_fits a b p q =
    let size = product_size a b p q in
    let fits = size_fits (a *ℤ b) size in
    rw (
      product_bits a b p q,
      to_z-of_z w32 (a *ℤ b) fits,
      to_z-of_z w32 (shr_z (a *ℤ b) 65536) (shift_fits (a *ℤ b) 65536 fits),
    ) (shifted_fits (a *ℤ b) size)

pub halves_fit : (us vs : List ℤ)
    → length us ≡ 16
    → length vs ≡ 16
    → Each1 (FitsSigned w16) us
    → Each1 (FitsSigned w16) vs
    → Each1 (λ z. FitsSigned w16 (to_z w32 z)) (shifted.all 16 us vs)
halves_fit us vs p q f g =
    each_is shifted (FitsSigned w16) (FitsSigned w16) (λ z. FitsSigned w16 (to_z w32 z)) 16 us
    vs p q f g high_fits

abbrev in_bytes : List ℕ → List ℕ
in_bytes xs = digits_l 4294967296 16 (number_l 256 (digits_l 256 64 (number_l 65536 xs)))

pub products_are : (us vs : List ℤ)
    → length us ≡ 16
    → length vs ≡ 16
    → Each1 (FitsSigned w16) us
    → Each1 (FitsSigned w16) vs
    → map (to_z w32) (in_bytes (pick_l 0 (lows.all 16 us vs ++ highs.all 16 us vs) turns))
    ≡ swap_quarters (zip2 ◌*ℤ◌ us vs)
products_are us vs p q f g =
    let low = lows.all 16 us vs in
    let high = highs.all 16 us vs in
    let low_long = length-all lows 16 us vs p q in
    let high_long = length-all highs 16 us vs p q in
    let zs = zip2 ◌*ℤ◌ us vs in
    let long : length zs ≡ 16 = length-zip2 ◌*ℤ◌ us vs (p ∙ sym q) ∙ p in
    let fits = Each1-exchanged (FitsSigned w32) zs (products_fit us vs f g) in
    let bits_long : length (map (of_z w32) (swap_quarters zs)) ≡ 16 =
    length-map (swap_quarters zs) (of_z w32) ∙ length-exchanged (pos 0) zs long in
    let whole :
    number_l 65536 (weave (swap_quarters low) (swap_quarters high))
    ≡ number_l 4294967296 (map (of_z w32) (swap_quarters zs)) =
    joined (swap_quarters low) (swap_quarters high)
    ∙ ap (number_l 4294967296)
    (sym (exchanged-zip2 0 0 (λ x y. x + 65536 * y) low high low_long high_long)
    ∙ ap swap_quarters (halves_joined us vs p q f g)
    ∙ exchanged-map (pos 0) (of_z w32) zs long)
    in
    ap (λ l. map (to_z w32) (in_bytes l)) (woven low high low_long high_long)
    ∙ ap (map (to_z w32))
    (recast 65536 4294967296 64 16 (weave (swap_quarters low) (swap_quarters high))
    (map (of_z w32) (swap_quarters zs)) whole bits_long (each_below w32 (swap_quarters zs) fits)
    refl)
    ∙ of_bits w32 (swap_quarters zs) fits

-- ---- quarters exchanged

abbrev in_fours : List ℕ → List ℕ
in_fours xs = digits_l 18446744073709551616 4 (number_l 256 (digits_l 256 32 (number_l 65536 xs)))

pub exchanged_are : (zs : List ℤ) → length zs ≡ 16 → Each1 (FitsSigned w16) zs
    → map (to_z w16)
    (digits_l 65536 16
    (number_l 256
    (digits_l 256 32
    (number_l 18446744073709551616
    (pick_l 0 (in_fours (map (of_z w16) zs) ++ in_fours (map (of_z w16) zs))
    (0 ∷ 2 ∷ 1 ∷ 3 ∷ []))))))
    ≡ swap_quarters zs
exchanged_are zs long fits =
    let xs = map (of_z w16) zs in
    ap (map (to_z w16))
    (exchanged_in_lanes xs (length-map zs (of_z w16) ∙ long) (each_below w16 zs fits)
    ∙ exchanged-map (pos 0) (of_z w16) zs long)
    ∙ of_bits w16 (swap_quarters zs) (Each1-exchanged (FitsSigned w16) zs fits)
