-- The results of a matrix with reversed columns on the rows that its windows read.
use Rattle.std.proofs.Common.{◌++◌, drop, append-nil, length-append, drop_at, take_at, take-take, drop-drop, ◌≡◌, ℕ, ℤ, pos, zero, suc, ◌+◌, ◌-◌, ◌*◌, ◌/◌, ◌%◌, ◌<◌, ◌≤◌, ◌+ℤ◌, ◌-ℤ◌, List, length, take, get_or, refl, ap, ◌∙◌, sym, subst, arith, ◌*ℤ◌, IsTrue}
use Rattle.window_kernels.proofs.Common.{Each1, IsPairTable, alternation, chunk, first_of_pair, get_or-chunk, ints, line_of, put_mid, range_with_len, rotated_coefficient, rotated_pair, row_sum, second_of_pair, sum_of_first, sum_of_rows, table, take-put_mid}
use Rattle.std.proofs.lemmas.Bool.Decides.{nat_tests}
use Rattle.vx_base.specs.Convolution.{ConvolutionValue, is_odd_side, coefficient}
use Rattle.vx_base.specs.Window.{row_product, matrix_product}
use Rattle.vx_base.proofs.ImageLaws.{get_or-table}
use Rattle.window_kernels.specs.Rotated.{rotated_tables}
use Rattle.window_kernels.proofs.ProductLaws.{sum-same, sum_turned, sum_is_total, pairs_add_up}
use Rattle.std.specs.List.{flat_map}
use Rattle.std.proofs.lemmas.List.{drop-take}
use Rattle.std.proofs.lemmas.List.Concat.{flat_map-append}
use Rattle.vx_base.proofs.TableLaws.{range-append}
use Rattle.window_kernels.proofs.RowLaws.{part_fits}

-- a side of a matrix
pub odd_side : (n : ℕ) → IsTrue (is_odd_side n) → (0 < n) × (n ≤ 9) × (n ≡ 2 * (n / 2) + 1)
odd_side n h = (grind (arith, nat_tests), grind (arith, nat_tests), grind (arith, nat_tests))

-- ---- tables

-- the first pairs
abbrev pub pairs_to : ConvolutionValue → ℕ → List ℤ
pairs_to m n = flat_map (rotated_pair m) (range_with_len 0 n)

pub length-pairs : (m : ConvolutionValue) (a n : ℕ)
    → length (flat_map (rotated_pair m) (range_with_len a n)) ≡ 16 * n
length-pairs m a zero = refl
length-pairs m a (suc n) =
    length-append (rotated_pair m a) (flat_map (rotated_pair m) (range_with_len (a + 1) n))
    ∙ omega (arith, length-pairs m (a + 1) n)

-- a pair in the tables
pair_read : (m : ConvolutionValue) (k n : ℕ)
    → chunk (16 * k) 16 (pairs_to m (k + suc n)) ≡ rotated_pair m k
pair_read m k n =
    let rest = flat_map (rotated_pair m) (range_with_len (0 + k + 1) n) in
    let here : 0 + k ≡ k = omega arith in
    ap (λ l. chunk (16 * k) 16 (flat_map (rotated_pair m) l)) (range-append 0 k (suc n))
    ∙ ap (chunk (16 * k) 16)
    (flat_map-append (rotated_pair m) (range_with_len 0 k) (range_with_len (0 + k) (suc n)))
    ∙ ap (take 16)
    (drop_at (pairs_to m k) (rotated_pair m (0 + k) ++ rest) (16 * k) (length-pairs m 0 k))
    ∙ take_at (rotated_pair m (0 + k)) rest 16 refl ∙ ap (rotated_pair m) here

-- pair j of row l
table_pair : (m : ConvolutionValue) (tables : List ℤ) (l j : ℕ)
    → tables ≡ rotated_tables m
    → l < m.rows
    → j < 5
    → chunk (16 * j) 16 (line_of tables 80 l)
    ≡ alternation 8 (rotated_coefficient m l (2 * j)) (rotated_coefficient m l (2 * j + 1))
table_pair m tables l j are below a =
    let k = 5 * l + j in
    let both : 16 * j + (80 - 16 * j) ≡ 80 = omega arith in
    let at : l * 80 + 16 * j ≡ 16 * k = omega arith in
    let all : m.rows * 5 ≡ k + suc (m.rows * 5 - k - 1) = omega arith in
    let row : k / 5 ≡ l = omega arith in
    let column : k % 5 * 2 ≡ 2 * j = omega arith in
    ap (λ n. take 16 (drop (16 * j) (take n (drop (l * 80) tables)))) (sym both)
    ∙ ap (take 16) (drop-take (16 * j) (80 - 16 * j) (drop (l * 80) tables))
    ∙ take-take 16 (80 - 16 * j) (drop (16 * j) (drop (l * 80) tables)) (omega arith)
    ∙ ap (take 16) (drop-drop (16 * j) (l * 80) tables)
    ∙ ap (λ n. chunk n 16 tables) at
    ∙ ap (chunk (16 * k) 16) (are ∙ ap (pairs_to m) all)
    ∙ pair_read m k (m.rows * 5 - k - 1)
    ∙ ap
    (λ i. alternation 8 (rotated_coefficient m i (k % 5 * 2))
    (rotated_coefficient m i (k % 5 * 2 + 1)))
    row
    ∙ ap (λ c. alternation 8 (rotated_coefficient m l c) (rotated_coefficient m l (c + 1))) column

first_read : (m : ConvolutionValue) (tables : List ℤ) (l j : ℕ)
    → tables ≡ rotated_tables m
    → l < m.rows
    → j < 5
    → first_of_pair (line_of tables 80 l) j ≡ rotated_coefficient m l (2 * j)
first_read m tables l j are below a =
    let at : 16 * j ≡ 16 * j + 0 = omega arith in
    ap (λ n. get_or (line_of tables 80 l) n (pos 0)) at
    ∙ sym (get_or-chunk (16 * j) 16 (line_of tables 80 l) 0 (pos 0) (omega arith))
    ∙ ap (λ t. get_or t 0 (pos 0)) (table_pair m tables l j are below a)

second_read : (m : ConvolutionValue) (tables : List ℤ) (l j : ℕ)
    → tables ≡ rotated_tables m
    → l < m.rows
    → j < 5
    → second_of_pair (line_of tables 80 l) j ≡ rotated_coefficient m l (2 * j + 1)
second_read m tables l j are below a =
    sym (get_or-chunk (16 * j) 16 (line_of tables 80 l) 1 (pos 0) (omega arith))
    ∙ ap (λ t. get_or t 1 (pos 0)) (table_pair m tables l j are below a)

-- the tables of a matrix are tables
pub are_tables : (m : ConvolutionValue) (tables : List ℤ) (pairs : ℕ)
    → tables ≡ rotated_tables m
    → pairs ≤ 5
    → (l : ℕ)
    → l < m.rows
    → IsPairTable pairs (line_of tables 80 l)
are_tables m tables pairs are few l below j h =
    let inside : j < 5 = omega arith in
    rw (
      table_pair m tables l j are below inside,
      first_read m tables l j are below inside,
      second_read m tables l j are below inside,
    ) refl

-- one more pair is written
pub pair_written : (m : ConvolutionValue) (k r : ℕ) (out ws : List ℤ) (a b : ℤ)
    → 16 * k ≤ length out
    → take (16 * k) out ≡ pairs_to m k
    → ws ≡ alternation 8 a b
    → a ≡ rotated_coefficient m (k / 5) (k % 5 * 2)
    → b ≡ rotated_coefficient m (k / 5) (k % 5 * 2 + 1)
    → take (16 * (k + 1)) (put_mid (16 * k) r out ws) ≡ pairs_to m (k + 1)
pair_written m k r out ws a b room before is first second =
    let long : length ws ≡ 16 = ap length is in
    let here : 0 + k ≡ k = omega arith in
    take-put_mid (16 * k) r out ws (16 * (k + 1)) (omega (arith, long)) room
    ∙ cc (before, is, first, second)
    ∙ sym
    (ap (flat_map (rotated_pair m)) (range-append 0 k 1) ∙ flat_map-append (rotated_pair m)
    (range_with_len 0 k) (range_with_len (0 + k) 1) ∙ ap (λ l. pairs_to m k ++ l)
    (append-nil (rotated_pair m (0 + k)) ∙ ap (rotated_pair m) here))

-- two numbers in turn fit, if both do
alternating_fits : (P : ℤ → Type 0) (n : ℕ) (a b : ℤ) → P a → P b → Each1 P (alternation n a b)
alternating_fits P zero a b p q = tt
alternating_fits P (suc n) a b p q = (p, (q, alternating_fits P n a b p q))

-- one more pair fits, if both of its numbers do
pub pair_fits : (P : ℤ → Type 0) (k r : ℕ) (out ws : List ℤ) (a b : ℤ)
    → 16 * k ≤ length out
    → Each1 P (take (16 * k) out)
    → ws ≡ alternation 8 a b
    → P a
    → P b
    → Each1 P (take (16 * (k + 1)) (put_mid (16 * k) r out ws))
pair_fits P k r out ws a b room before is p q =
    let long : length ws ≡ 16 = ap length is in
    part_fits P out ws (16 * k) r (16 * (k + 1)) room (omega (arith, long)) before
    (subst (Each1 P) (sym is) (alternating_fits P 8 a b p q))

-- ---- the sum of a window

turned_is : (m : ConvolutionValue) (l c : ℕ)
    → c < m.columns
    → rotated_coefficient m l c ≡ coefficient m l (m.columns - 1 - c)
turned_is m l c h = grind (arith, nat_tests)

-- a row of it
row_is_product : (m : ConvolutionValue) (f : ℤ → ℤ) (row tables : List ℤ) (x p l n : ℕ)
    → tables ≡ rotated_tables m
    → IsTrue (is_odd_side m.columns)
    → l < m.rows
    → p + m.columns ≤ n
    → ((c : ℕ) → c < n → get_or row c (pos 0) ≡ f (pos (x + c) -ℤ pos (m.columns / 2)))
    → row_sum row (line_of tables 80 l) (m.columns / 2 + 1) p ≡ row_product m f (pos (x + p)) l
row_is_product m f row tables x p l n are side below room seen =
    let odd = odd_side m.columns side in
    let count : 2 * (m.columns / 2 + 1) ≡ suc m.columns = omega (arith, odd) in
    let beyond : rotated_coefficient m l m.columns ≡ pos 0 = grind (arith, nat_tests) in
    let g : ℕ → ℤ = λ c. get_or row (p + c) (pos 0) *ℤ rotated_coefficient m l c in
    let none :
    sum_of_first m.columns g +ℤ get_or row (p + m.columns) (pos 0) *ℤ pos 0
    ≡ sum_of_first m.columns g =
    omega (arith, ints) in
    pairs_add_up row (line_of tables 80 l) (rotated_coefficient m l) (m.columns / 2 + 1) p
    (λ j h. first_read m tables l j are below (omega (arith, odd)))
    (λ j h. second_read m tables l j are below (omega (arith, odd)))
    ∙ ap (λ k. sum_of_first k g) count
    ∙ ap (λ z. sum_of_first m.columns g +ℤ get_or row (p + m.columns) (pos 0) *ℤ z) beyond ∙ none
    ∙ sum-same m.columns g (λ c. product (m.columns - 1 - c))
    (λ c h. ap (λ z. z *ℤ rotated_coefficient m l c)
    (seen (p + c) (omega arith) ∙ ap f (at c h odd.2)) ∙ ap
    (λ z. f (pos (x + p) +ℤ pos (m.columns / 2) -ℤ pos (m.columns - 1 - c)) *ℤ z)
    (turned_is m l c h))
    ∙ sum_turned m.columns product
    ∙ sum_is_total m.columns product
  where
    product : ℕ → ℤ
    product k = f (pos (x + p) +ℤ pos (m.columns / 2) -ℤ pos k) *ℤ coefficient m l k

    at : (c : ℕ)
        → c < m.columns
        → m.columns ≡ 2 * (m.columns / 2) + 1
        → pos (x + (p + c)) -ℤ pos (m.columns / 2)
        ≡ pos (x + p) +ℤ pos (m.columns / 2) -ℤ pos (m.columns - 1 - c)
    at c h odd = omega (arith, ints)

-- of rows that begin with what the windows of column x see
pub sum_is_product : (m : ConvolutionValue) (f : ℤ → ℤ → ℤ) (rows tables : List ℤ) (x y p line : ℕ)
    → rows
    ≡ table line m.rows
    (λ c l. f (pos (x + c) -ℤ pos (m.columns / 2)) (pos y +ℤ pos (m.rows / 2) -ℤ pos l))
    → tables ≡ rotated_tables m → IsTrue (is_odd_side m.columns) → p + m.columns ≤ line
    → sum_of_rows rows line tables (m.columns / 2 + 1) m.rows p
    ≡ matrix_product m f (pos (x + p)) (pos y)
sum_is_product m f rows tables x y p line loaded are side room =
    sum-same m.rows
    (λ l. row_sum (line_of rows line l) (line_of tables 80 l) (m.columns / 2 + 1) p)
    (λ l. row_product m (λ u. f u (pos y +ℤ pos (m.rows / 2) -ℤ pos l)) (pos (x + p)) l)
    (λ l h. row_is_product m (λ u. f u (pos y +ℤ pos (m.rows / 2) -ℤ pos l))
    (line_of rows line l) tables x p l line are side h room (λ c b. seen l c h b))
    ∙ sum_is_total m.rows
    (λ l. row_product m (λ u. f u (pos y +ℤ pos (m.rows / 2) -ℤ pos l)) (pos (x + p)) l)
  where
    seen : (l c : ℕ)
        → l < m.rows
        → c < line
        → get_or (line_of rows line l) c (pos 0)
        ≡ f (pos (x + c) -ℤ pos (m.columns / 2)) (pos y +ℤ pos (m.rows / 2) -ℤ pos l)
    seen l c h b =
        get_or-chunk (l * line) line rows c (pos 0) b
        ∙ ap (λ t. get_or t (l * line + c) (pos 0)) loaded
        ∙ get_or-table line m.rows c l
        (λ c l. f (pos (x + c) -ℤ pos (m.columns / 2)) (pos y +ℤ pos (m.rows / 2) -ℤ pos l)) b h
