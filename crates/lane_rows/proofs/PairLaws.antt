-- Sums at every second index of a row, modulo 2 ^ 32.
use Rattle.std.proofs.Common.{map, length, ◌≡◌, ℕ, ℤ, pos, zero, suc, ◌+◌, ◌-◌, ◌*◌, ◌%◌, ◌<◌, ◌≤◌, List, [], ◌∷◌, ◌++◌, get_or, take, drop, refl, ap, ◌∙◌, sym, subst, arith, add-one, zero-add, take-take, ◌+ℤ◌, w16, w32, to_z, of_z, ◌*ℤ◌, FitsSigned}
use Rattle.lane_rows.proofs.Common.{zip2, to_z-of_z, chunk, pick_l, range_with_len, Each1, Each1-chunk, ints, run, run-same, run_shifted, alternation, pair_at, row_sum, first_of_pair, second_of_pair}
use Rattle.std.specs.Int.{int_wrap}
use Rattle.std.proofs.lemmas.Simd.{Each1-get_or, map-map}
use Rattle.lane_rows.proofs.BitLaws.{bits_of, read_bits, plus_bits, wide, times_bits, Each1-append}
use Rattle.lane_rows.proofs.ShortLaws.{wider}
use Rattle.lane_rows.proofs.RunLaws.{loaded_is}
use Rattle.lane_rows.specs.Pairs.{AreAdded}

abbrev pub plus : ℕ → ℕ → ℕ
plus a b = (a + b) % 4294967296

abbrev times : ℕ → ℕ → ℕ
times a b = (a * b) % 4294967296

-- two functions that agree have the same values
pub same_values : {A : Type 0} (f g : ℕ → A)
    → ((k : ℕ) → f k ≡ g k)
    → (ks : List ℕ)
    → map f ks ≡ map g ks
same_values f g same [] = refl
same_values f g same (k ∷ ks) = cc (same k, same_values f g same ks)

pub read_run : (f : ℕ → ℤ) (n : ℕ)
    → map (to_z w32) (map (λ k. bits_of (f k)) (range_with_len 0 n))
    ≡ run 0 n (λ k. int_wrap w32 (f k))
read_run f n =
    map-map (to_z w32) (λ k. bits_of (f k)) (range_with_len 0 n)
    ∙ same_values (λ k. to_z w32 (bits_of (f k))) (λ k. int_wrap w32 (f k))
    (λ k. read_bits (f k)) (range_with_len 0 n)

-- ---- eight indices

pub each_at : {A : Type 0} (P : A → Type 0) (d : A) (xs : List A) (k : ℕ)
    → Each1 P xs
    → P d
    → P (get_or xs k d)
each_at P d [] k each none = none
each_at P d (x ∷ xs) zero each none = each.0
each_at P d (x ∷ xs) (suc k) each none = each_at P d xs k each.1 none

each_picked : {A : Type 0} (P : A → Type 0) (d : A) (xs : List A) (ks : List ℕ)
    → Each1 P xs
    → P d
    → Each1 P (pick_l d xs ks)
each_picked P d xs [] each none = tt
each_picked P d xs (k ∷ ks) each none =
    (each_at P d xs k each none, each_picked P d xs ks each none)

abbrev Fits32 : ℕ → Type 0
Fits32 b = FitsSigned w32 (to_z w16 b)

bits_fit : (xs : List ℤ) → Each1 (FitsSigned w16) xs → Each1 Fits32 (map (of_z w16) xs)
bits_fit [] fits = tt
bits_fit (x ∷ xs) fits =
    (subst (FitsSigned w32) (sym (to_z-of_z w16 x fits.0)) (wider x fits.0), bits_fit xs fits.1)

-- sixteen lanes of a slice
abbrev load : List ℤ → ℕ → List ℕ
load xs i = map (of_z w16) (chunk 0 16 (take (i + 16 - i) (drop i xs)))

cut : (xs : List ℤ) (i : ℕ) → chunk 0 16 (take (i + 16 - i) (drop i xs)) ≡ chunk i 16 xs
cut xs i =
    let count : i + 16 - i ≡ 16 = omega arith in
    rw count (take-take 16 16 (drop i xs) (omega arith))

-- each selected lane fits a cast to 32 bits
pub casts_fit : (xs : List ℤ) (i : ℕ) (ks : List ℕ)
    → Each1 (FitsSigned w16) xs
    → Each1 (λ b. FitsSigned w32 (to_z w16 b)) (pick_l 0 (load xs i ++ load xs i) ks)
casts_fit xs i ks fits =
    let lanes =
    bits_fit _
    (subst (Each1 (FitsSigned w16)) (sym (cut xs i)) (Each1-chunk (FitsSigned w16) i 16 xs fits))
    in
    each_picked Fits32 0 _ ks (Each1-append Fits32 (load xs i) (load xs i) lanes lanes)
    (record { sfits = omega arith })

abbrev products : List ℕ → List ℕ → List ℕ → List ℕ
products ks s c = zip2 times (map wide (pick_l 0 (s ++ s) ks)) (map wide (pick_l 0 (c ++ c) ks))

abbrev pub evens : List ℕ
evens = 0 ∷ 2 ∷ 4 ∷ 6 ∷ 8 ∷ 10 ∷ 12 ∷ 14 ∷ []

abbrev pub odds : List ℕ
odds = 1 ∷ 3 ∷ 5 ∷ 7 ∷ 9 ∷ 11 ∷ 13 ∷ 15 ∷ []

abbrev pair_lanes : List ℕ → List ℕ → List ℕ
pair_lanes s c = zip2 plus (products evens s c) (products odds s c)

abbrev lane : ℤ → ℤ → ℤ → ℤ → ℕ
lane a b x y =
    plus (times (wide (of_z w16 x)) (wide (of_z w16 a)))
    (times (wide (of_z w16 y)) (wide (of_z w16 b)))

lane_is : (a b x y : ℤ)
    → FitsSigned w16 a
    → FitsSigned w16 b
    → FitsSigned w16 x
    → FitsSigned w16 y
    → to_z w32 (lane a b x y) ≡ int_wrap w32 (x *ℤ a +ℤ y *ℤ b)
lane_is a b x y p q r s =
    ap (to_z w32)
    (ap (λ n. plus n (times (wide (of_z w16 y)) (wide (of_z w16 b)))) (times_bits x a r p)
    ∙ ap (plus (bits_of (x *ℤ a))) (times_bits y b s q)
    ∙ plus_bits (x *ℤ a) (y *ℤ b))
    ∙ read_bits (x *ℤ a +ℤ y *ℤ b)

pub eight_sums : (row table : List ℤ) (p at : ℕ) (a b : ℤ)
    → p + 16 ≤ length row
    → at + 16 ≤ length table
    → Each1 (FitsSigned w16) row
    → Each1 (FitsSigned w16) table
    → chunk at 16 table ≡ alternation 8 a b
    → map (to_z w32) (pair_lanes (load row p) (load table at))
    ≡ run 0 8 (λ i. int_wrap w32 (pair_at row a b (p + 2 * i)))
eight_sums row table p at a b room table_room fits table_fits is =
    let x : ℕ → ℤ = λ k. get_or row (p + k) (pos 0) in
    let samples : chunk 0 16 (take (p + 16 - p) (drop p row)) ≡ run 0 16 x =
    loaded_is 16 row p (pos 0) room
    ∙ run_shifted (λ k. get_or row k (pos 0)) x p 0 16 (λ k h. ap x (sym (zero-add k))) in
    let both : Each1 (FitsSigned w16) (alternation 8 a b) =
    subst (Each1 (FitsSigned w16)) is (Each1-chunk (FitsSigned w16) at 16 table table_fits) in
    let small : (k : ℕ) → k < 16 → FitsSigned w16 (x k) =
    λ k below. Each1-get_or (FitsSigned w16) row (p + k) (pos 0) (omega (arith, room, below))
    fits in
    let next : (k : ℕ) → p + (2 * k + 1) ≡ p + 2 * k + 1 = λ k. omega arith in
    ap (λ s. map (to_z w32) (pair_lanes (map (of_z w16) s) (load table at))) samples
    ∙ ap (λ c. map (to_z w32) (pair_lanes (map (of_z w16) (run 0 16 x)) (map (of_z w16) c)))
    (cut table at ∙ is)
    ∙ run-same (λ i. to_z w32 (lane a b (x (2 * i)) (x (2 * i + 1))))
    (λ i. int_wrap w32 (pair_at row a b (p + 2 * i))) 0 8
    (λ k _ below. lane_is a b (x (2 * k)) (x (2 * k + 1)) both.0 both.1.0
    (small (2 * k) (omega arith)) (small (2 * k + 1) (omega arith))
    ∙ ap (λ j. int_wrap w32 (x (2 * k) *ℤ a +ℤ get_or row j (pos 0) *ℤ b)) (next k))

-- eight indices and eight further ones
pub sixteen_sums : (f : ℕ → ℤ) (p : ℕ) (F S : List ℤ)
    → F ≡ run 0 8 (λ i. int_wrap w32 (f (p + 2 * i)))
    → S ≡ run 0 8 (λ i. int_wrap w32 (f (p + 16 + 2 * i)))
    → map (to_z w32) (pick_l 0 (map (of_z w32) F ++ map (of_z w32) S) (range_with_len 0 16))
    ≡ run 0 16 (λ i. int_wrap w32 (f (p + 2 * i)))
sixteen_sums f p F S first second =
    let at : (k : ℕ) → p + 16 + 2 * k ≡ p + (16 + 2 * k) = λ k. omega arith in
    let others =
    second
    ∙ run-same _ (λ i. int_wrap w32 (f (p + (16 + 2 * i)))) 0 8
    (λ k _ _. ap (λ j. int_wrap w32 (f j)) (at k)) in
    rw (first, others) (read_run (λ i. f (p + 2 * i)) 16)

-- ---- sums to which pairs are added, as bits

abbrev pub Added : (ℕ → ℤ) → List ℕ → List ℕ → Type 0
Added g before after =
    (f : ℕ → ℤ)
    → before ≡ map (λ i. bits_of (f i)) (range_with_len 0 16)
    → after ≡ map (λ i. bits_of (f i +ℤ g i)) (range_with_len 0 16)

-- nothing is added yet
pub none_added : (row table : List ℤ) (index : ℕ) (sums : List ℕ)
    → Added (λ i. row_sum row table 0 (index + 2 * i)) sums sums
none_added row table index sums f is =
    let none : (x : ℤ) → x ≡ x +ℤ pos 0 = λ x. omega (arith, ints) in
    is
    ∙ same_values (λ i. bits_of (f i)) (λ i. bits_of (f i +ℤ pos 0))
    (λ k. ap bits_of (none (f k))) (range_with_len 0 16)

-- one more pair is added
pub pair_added : (row table : List ℤ) (index j : ℕ) (before sums : List ℕ) (more : List ℤ)
    → Added (λ i. row_sum row table j (index + 2 * i)) before sums
    → more
    ≡ run 0 16
    (λ i. int_wrap w32
    (pair_at row (first_of_pair table j) (second_of_pair table j) (index + 2 * j + 2 * i)))
    → Added (λ i. row_sum row table (j + 1) (index + 2 * i)) before
    (zip2 plus sums (map (of_z w32) more))
pair_added row table index j before sums more so_far is f start =
    let g = pair_at row (first_of_pair table j) (second_of_pair table j) in
    let s : ℕ → ℤ = λ k. row_sum row table j (index + 2 * k) in
    let at : (k : ℕ) → index + 2 * j + 2 * k ≡ index + 2 * k + 2 * j = λ k. omega arith in
    let regroup : (x y z : ℤ) → (x +ℤ y) +ℤ z ≡ x +ℤ (y +ℤ z) = λ x y z. omega (arith, ints) in
    rw (so_far f start, is, add-one j)
    (same_values (λ k. plus (bits_of (f k +ℤ s k)) (bits_of (g (index + 2 * j + 2 * k))))
    (λ k. bits_of (f k +ℤ row_sum row table (suc j) (index + 2 * k)))
    (λ k. plus_bits (f k +ℤ s k) (g (index + 2 * j + 2 * k)) ∙ ap bits_of
    (regroup (f k) (s k) (g (index + 2 * j + 2 * k)) ∙ ap (λ q. f k +ℤ (s k +ℤ g q)) (at k)))
    (range_with_len 0 16))

-- all pairs are added, to sums that were given as numbers
pub all_added : (row table : List ℤ) (index n j : ℕ) (before : List ℤ) (after : List ℕ)
    → j ≡ n
    → Added (λ i. row_sum row table j (index + 2 * i)) (map (of_z w32) before) after
    → AreAdded (λ i. row_sum row table n (index + 2 * i)) before (map (to_z w32) after)
all_added row table index n j before after end added f is =
    ap (map (to_z w32)) (added f (ap (map (of_z w32)) is))
    ∙ read_run (λ i. f i +ℤ row_sum row table j (index + 2 * i)) 16
    ∙ ap (λ m. run 0 16 (λ i. int_wrap w32 (f i +ℤ row_sum row table m (index + 2 * i)))) end
