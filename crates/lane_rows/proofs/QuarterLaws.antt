-- Sixteen lanes of 16 bits, two quarters of which are exchanged as lanes of 64 bits.
use Rattle.std.proofs.Common.{◌≡◌, ℕ, ◌+◌, ◌<◌, ◌≤◌, List, [], ◌∷◌, ◌++◌, map, length, refl, ap, ◌∙◌, sym, subst, arith}
use Rattle.lane_rows.proofs.Common.{zip2, Each1, pick_l, chunk, number_l, digits_l, range_with_len, length-chunk, swap_quarters}
use Rattle.std.proofs.lemmas.Simd.{pick_l_whole, Each1-chunk}
use Rattle.lane_rows.proofs.DigitLaws.{weight, number_below, recast}

-- what holds of sixteen items that are written out holds of each list of sixteen
pub written_out : {A : Type 0} (d : A) (P : List A → Type 0) (xs : List A)
    → length xs ≡ 16
    → P (pick_l d xs (range_with_len 0 16))
    → P xs
written_out d P xs long holds = subst P (pick_l_whole d xs 16 long) holds

pub length-exchanged : {A : Type 0} (d : A) (xs : List A)
    → length xs ≡ 16
    → length (swap_quarters xs) ≡ 16
length-exchanged d xs long = written_out d (λ u. length (swap_quarters u) ≡ 16) xs long refl

pub exchanged-map : {A B : Type 0} (d : A) (f : A → B) (xs : List A)
    → length xs ≡ 16
    → swap_quarters (map f xs) ≡ map f (swap_quarters xs)
exchanged-map d f xs long =
    written_out d (λ u. swap_quarters (map f u) ≡ map f (swap_quarters u)) xs long refl

pub exchanged-zip2 : {A B C : Type 0} (d : A) (e : B) (f : A → B → C) (xs : List A) (ys : List B)
    → length xs ≡ 16
    → length ys ≡ 16
    → swap_quarters (zip2 f xs ys) ≡ zip2 f (swap_quarters xs) (swap_quarters ys)
exchanged-zip2 d e f xs ys p q =
    written_out d
    (λ u. swap_quarters (zip2 f u ys) ≡ zip2 f (swap_quarters u) (swap_quarters ys)) xs p
    (written_out e
    (λ v. swap_quarters (zip2 f (pick_l d xs (range_with_len 0 16)) v)
    ≡ zip2 f (swap_quarters (pick_l d xs (range_with_len 0 16))) (swap_quarters v))
    ys q refl)

pub Each1-append : {A : Type 0} (P : A → Type 0) (xs ys : List A)
    → Each1 P xs
    → Each1 P ys
    → Each1 P (xs ++ ys)
Each1-append P [] ys f g = g
Each1-append P (x ∷ xs) ys f g = (f.0, Each1-append P xs ys f.1 g)

pub Each1-exchanged : {A : Type 0} (P : A → Type 0) (xs : List A)
    → Each1 P xs
    → Each1 P (swap_quarters xs)
Each1-exchanged P xs all =
    let part : (i : ℕ) → Each1 P (chunk i 4 xs) = λ i. Each1-chunk P i 4 xs all in
    Each1-append P (chunk 0 4 xs ++ chunk 8 4 xs ++ chunk 4 4 xs) (chunk 12 4 xs)
    (Each1-append P (chunk 0 4 xs ++ chunk 8 4 xs) (chunk 4 4 xs)
    (Each1-append P (chunk 0 4 xs) (chunk 8 4 xs) (part 0) (part 8)) (part 4))
    (part 12)

-- ---- in lanes

-- four lanes in one
abbrev four : List ℕ → ℕ → ℕ
four xs i = number_l 65536 (chunk i 4 xs)

abbrev fours : List ℕ → List ℕ
fours xs = four xs 0 ∷ four xs 4 ∷ four xs 8 ∷ four xs 12 ∷ []

same_number : (xs : List ℕ)
    → length xs ≡ 16
    → number_l 65536 xs ≡ number_l 18446744073709551616 (fours xs)
same_number xs long =
    written_out 0 (λ u. number_l 65536 u ≡ number_l 18446744073709551616 (fours u)) xs long
    (omega arith)

four_below : (xs : List ℕ) (i : ℕ)
    → length (chunk i 4 xs) ≡ 4
    → Each1 (λ x. x < 65536) xs
    → four xs i < 18446744073709551616
four_below xs i long all =
    subst (λ n. four xs i < weight 65536 n) long
    (number_below 65536 (chunk i 4 xs) (Each1-chunk (λ x. x < 65536) i 4 xs all))

fours_below : (xs : List ℕ)
    → length xs ≡ 16
    → Each1 (λ x. x < 65536) xs
    → Each1 (λ x. x < 18446744073709551616) (fours xs)
fours_below xs long all =
    let one : (i : ℕ) → i + 4 ≤ 16 → four xs i < 18446744073709551616 =
    λ i room. four_below xs i (length-chunk i 4 xs (omega (arith, long, room))) all in
    (one 0 (omega arith), (one 4 (omega arith), (one 8 (omega arith), (one 12 (omega arith), tt))))

abbrev in_fours : List ℕ → List ℕ
in_fours xs = digits_l 18446744073709551616 4 (number_l 256 (digits_l 256 32 (number_l 65536 xs)))

fours_exchanged : (xs : List ℕ)
    → length xs ≡ 16
    → pick_l 0 (fours xs ++ fours xs) (0 ∷ 2 ∷ 1 ∷ 3 ∷ []) ≡ fours (swap_quarters xs)
fours_exchanged xs long =
    written_out 0
    (λ u. pick_l 0 (fours u ++ fours u) (0 ∷ 2 ∷ 1 ∷ 3 ∷ []) ≡ fours (swap_quarters u)) xs long
    refl

pub exchanged_in_lanes : (xs : List ℕ) → length xs ≡ 16 → Each1 (λ x. x < 65536) xs
    → digits_l 65536 16
    (number_l 256
    (digits_l 256 32
    (number_l 18446744073709551616 (pick_l 0 (in_fours xs ++ in_fours xs) (0 ∷ 2 ∷ 1 ∷ 3 ∷ [])))))
    ≡ swap_quarters xs
exchanged_in_lanes xs long all =
    let others = swap_quarters xs in
    let others_long : length others ≡ 16 = length-exchanged 0 xs long in
    let others_below = Each1-exchanged (λ x. x < 65536) xs all in
    ap
    (λ ys. digits_l 65536 16
    (number_l 256
    (digits_l 256 32 (number_l 18446744073709551616 (pick_l 0 (ys ++ ys) (0 ∷ 2 ∷ 1 ∷ 3 ∷ []))))))
    (recast 65536 18446744073709551616 32 4 xs (fours xs) (same_number xs long) refl
    (fours_below xs long all) refl)
    ∙ ap
    (λ ys. digits_l 65536 16 (number_l 256 (digits_l 256 32 (number_l 18446744073709551616 ys))))
    (fours_exchanged xs long)
    ∙ recast 18446744073709551616 65536 32 16 (fours others) others
    (sym (same_number others others_long)) others_long others_below refl
