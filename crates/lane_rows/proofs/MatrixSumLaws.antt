-- Rows of a matrix that are added one after another.
use Rattle.std.proofs.Common.{◌≡◌, ℕ, ℤ, pos, zero, suc, get_or, ◌+◌, ◌-◌, ◌*◌, ◌<◌, ◌≤◌, List, [], ◌∷◌, ◌++◌, length, map, take, drop, replicate, refl, ap, ◌∙◌, sym, subst, arith, add-one, w16, w32, to_z, of_z, ◌*ℤ◌, unsigned_abs, FitsSigned, All}
use Rattle.lane_rows.proofs.Common.{MatrixRows, matrix_sum, Each1, chunk, pick_l, ints, range_with_len, Each1-chunk, length-chunk, to_z-of_z, fits_signed_from_abs, run, run-same, IsNear, row_sum, line_of, sum_of_rows}
use Rattle.std.specs.Int.{int_wrap}
use Rattle.std.proofs.lemmas.Int.{int_wrap_fits, unsigned_abs-mul}
use Rattle.std.proofs.lemmas.Nat.{mul-le}
use Rattle.std.proofs.lemmas.Simd.{Each1-from_get_or}
use Rattle.lane_rows.specs.Pairs.{AreAdded, sum_of_first}
use Rattle.lane_rows.proofs.BitLaws.{bits_of}
use Rattle.lane_rows.proofs.PairLaws.{read_run, same_values, each_at}
use Rattle.lane_rows.proofs.ShortLaws.{abs_16}

-- one row of several in a list
pub row_cut : {A : Type 0} (items : List A) (first line step l : ℕ)
    → first ≡ l
    → step ≡ line
    → take (first * step + step - first * step) (drop (first * step) items)
    ≡ chunk (l * line) line items
row_cut items first line step l is same =
    let e : first * step + step - first * step ≡ step = omega arith in
    rw (e, is, same) refl

-- a row of items that are near, or fit
pub each_of_row : (P : ℤ → Type 0) (items row : List ℤ) (line l : ℕ)
    → All P items
    → row ≡ line_of items line l
    → Each1 P row
each_of_row P items row line l all is =
    subst (Each1 P) (sym is)
    (Each1-chunk P (l * line) line items
    (Each1-from_get_or P items (pos 0) (λ i below. all i (pos 0) below)))

pub length_row : (items row : List ℤ) (line l : ℕ)
    → row ≡ line_of items line l
    → l * line + line ≤ length items
    → length row ≡ line
length_row items row line l is room = ap length is ∙ length-chunk (l * line) line items room

-- ---- sums at sixteen indices, as bits

-- the sums over the first l rows, at every second index from `at` on
abbrev pub first_rows : MatrixRows → ℕ → ℕ → List ℕ
first_rows m l at =
    map (λ i. bits_of (sum_of_rows m.rows.now m.line m.tables.now m.pairs l (at + 2 * i)))
    (range_with_len 0 16)

pub no_rows : (m : MatrixRows) (at : ℕ) → replicate 16 0 ≡ first_rows m 0 at
no_rows m at =
    ap (λ z. replicate 16 (of_z w32 z))
    (sym (int_wrap_fits w32 (pos 0) (record { sfits = omega arith })))

pub row_added : (m : MatrixRows) (l at : ℕ) (sums : List ℕ) (next row table : List ℤ)
    → sums ≡ first_rows m l at
    → row ≡ line_of m.rows.now m.line l
    → table ≡ line_of m.tables.now 80 l
    → AreAdded (λ i. row_sum row table m.pairs (at + 2 * i)) (map (to_z w32) sums) next
    → map (of_z w32) next ≡ first_rows m (l + 1) at
row_added m l at sums next row table are is_row is_table added =
    let s : ℕ → ℤ = λ i. sum_of_rows m.rows.now m.line m.tables.now m.pairs l (at + 2 * i) in
    rw (added s (ap (map (to_z w32)) are ∙ read_run s 16), is_row, is_table, add-one l) refl

pub all_rows : (m : MatrixRows) (l at : ℕ) (sums : List ℕ)
    → sums ≡ first_rows m l at
    → l ≡ m.count
    → map (to_z w32) sums ≡ run 0 16 (λ i. int_wrap w32 (matrix_sum m (at + 2 * i)))
all_rows m l at sums are end =
    ap (map (to_z w32)) (are ∙ ap (λ n. first_rows m n at) end)
    ∙ read_run (λ i. matrix_sum m (at + 2 * i)) 16

-- ---- no sum wraps

sum_up_to : (limit n : ℕ) (g : ℕ → ℤ)
    → ((k : ℕ) → k < n → IsNear limit (g k))
    → IsNear (n * limit) (sum_of_first n g)
sum_up_to limit zero g near = omega arith
sum_up_to limit (suc n) g near =
    omega (arith, ints, near n (omega arith), sum_up_to limit n g (λ k below. near k (omega arith)))

product_up_to : (a b : ℤ) → IsNear 255 a → FitsSigned w16 b → IsNear 8355840 (a *ℤ b)
product_up_to a b near fits =
    let bound : unsigned_abs a * unsigned_abs b ≤ 255 * 32768 =
    mul-le (unsigned_abs a) (unsigned_abs b) 255 32768 near (abs_16 b fits) in
    rw (unsigned_abs-mul a b) (omega arith)

pub matrix_sum_fits : (m : MatrixRows) (p : ℕ) → FitsSigned w32 (matrix_sum m p)
matrix_sum_fits m p =
    let row : (l k : ℕ) → IsNear 255 (get_or (line_of m.rows.now m.line l) k (pos 0)) =
    λ l k. each_at (IsNear 255) (pos 0) _ k
    (each_of_row (IsNear 255) m.rows.now _ m.line l m.near refl) (omega arith) in
    let table : (l k : ℕ) → FitsSigned w16 (get_or (line_of m.tables.now 80 l) k (pos 0)) =
    λ l k. each_at (FitsSigned w16) (pos 0) _ k
    (each_of_row (FitsSigned w16) m.tables.now _ 80 l m.fits refl)
    (record { sfits = omega arith }) in
    let product : (l j k i : ℕ)
    → IsNear 8355840
    (get_or (line_of m.rows.now m.line l) k (pos 0) *ℤ get_or (line_of m.tables.now 80 l) i (pos 0))
    =
    λ l j k i. product_up_to _ _ (row l k) (table l i) in
    let one : (l : ℕ)
    → IsNear (m.pairs * 16711680)
    (row_sum (line_of m.rows.now m.line l) (line_of m.tables.now 80 l) m.pairs p) =
    λ l. sum_up_to 16711680 m.pairs _
    (λ j _. omega
    (arith, ints, product l j (p + 2 * j) (16 * j), product l j (p + 2 * j + 1) (16 * j + 1)))
    in
    let few : m.pairs * 16711680 ≤ 83558400 = omega (arith, m.few.1) in
    let all : IsNear (m.count * 83558400) (matrix_sum m p) =
    sum_up_to 83558400 m.count _ (λ l _. omega (arith, one l, few)) in
    fits_signed_from_abs w32 (matrix_sum m p) (omega (arith, all, m.few.0))

-- ---- even indices and odd ones, in turn

-- the sums of a block as they are stored
pub block_stored : (f : ℕ → ℤ) (index : ℕ) (E O : List ℤ)
    → ((p : ℕ) → FitsSigned w32 (f p))
    → E ≡ run 0 16 (λ i. int_wrap w32 (f (index + 2 * i)))
    → O ≡ run 0 16 (λ i. int_wrap w32 (f (index + 1 + 2 * i)))
    → map (λ b. to_z w32 (of_z w32 (to_z w32 b)))
    (pick_l 0 (map (of_z w32) E ++ map (of_z w32) O)
    (0
    ∷ 16
    ∷ 1
    ∷ 17
    ∷ 2
    ∷ 18
    ∷ 3
    ∷ 19
    ∷ 4
    ∷ 20
    ∷ 5
    ∷ 21
    ∷ 6
    ∷ 22
    ∷ 7
    ∷ 23
    ∷ 8
    ∷ 24
    ∷ 9
    ∷ 25
    ∷ 10
    ∷ 26
    ∷ 11
    ∷ 27
    ∷ 12
    ∷ 28
    ∷ 13
    ∷ 29
    ∷ 14
    ∷ 30
    ∷ 15
    ∷ 31
    ∷ []))
    ≡ run 0 32 (λ i. f (index + i))
block_stored f index E O fits e o =
    let at : (k : ℕ) → index + 1 + 2 * k ≡ index + (2 * k + 1) = λ k. omega arith in
    let even =
    e
    ∙ run-same _ (λ i. f (index + 2 * i)) 0 16
    (λ k _ _. int_wrap_fits w32 (f (index + 2 * k)) (fits (index + 2 * k))) in
    let odd =
    o
    ∙ run-same _ (λ i. f (index + (2 * i + 1))) 0 16
    (λ k _ _. ap (λ j. int_wrap w32 (f j)) (at k)
    ∙ int_wrap_fits w32 (f (index + (2 * k + 1))) (fits (index + (2 * k + 1))))
    in
    let stored : (k : ℕ)
    → to_z w32 (of_z w32 (to_z w32 (of_z w32 (f (index + k))))) ≡ f (index + k) =
    λ k. let same = to_z-of_z w32 (f (index + k)) (fits (index + k)) in
    ap (λ z. to_z w32 (of_z w32 z)) same ∙ same in
    rw (even, odd)
    (same_values (λ k. to_z w32 (of_z w32 (to_z w32 (of_z w32 (f (index + k))))))
    (λ k. f (index + k)) stored (range_with_len 0 32))
