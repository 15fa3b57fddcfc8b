-- Sums of samples times coefficients, taken in pairs.
use Rattle.std.specs.Prelude.{ℕ, zero, suc, ℤ, pos, ◌≡◌, ◌+◌, ◌*◌, ◌≤◌, ◌<◌, ◌+ℤ◌, ◌*ℤ◌, List, [], ◌∷◌, slice_index_or, unsigned_abs}
use Rattle.std.specs.Int.{w32, int_wrap}
use Rattle.std.specs.Simd.Lanes.{chunk}
use Rattle.vx_base.specs.Image.{run}

-- the absolute value is at most the limit. The limit is 8355840 (255 * 32768) for a U8 sample times
-- an S16 coefficient, and twice that for a pair of products. A matrix has at most 45 pairs, in nine
-- rows. The limit of their sum is 752025600, which is below 2^31.
abbrev pub IsNear : ℕ → ℤ → Type 0
IsNear limit z = unsigned_abs z ≤ limit

-- two numbers in alternation, n times each
abbrev pub alternation : ℕ → ℤ → ℤ → List ℤ
alternation zero a b = []
alternation (suc n) a b = a ∷ b ∷ alternation n a b

-- the sum of g 0 to g (n - 1)
abbrev pub sum_of_first : ℕ → (ℕ → ℤ) → ℤ
sum_of_first zero g = pos 0
sum_of_first (suc n) g = sum_of_first n g +ℤ g n

-- `a` times the sample at an index, plus `b` times the next sample
abbrev pub pair_at : List ℤ → ℤ → ℤ → ℕ → ℤ
pair_at row a b p = slice_index_or row p (pos 0) *ℤ a +ℤ slice_index_or row (p + 1) (pos 0) *ℤ b

-- the first coefficient of pair j of a table, which holds each pair eight times
abbrev pub first_of_pair : List ℤ → ℕ → ℤ
first_of_pair table j = slice_index_or table (16 * j) (pos 0)

-- the second coefficient of pair j of a table
abbrev pub second_of_pair : List ℤ → ℕ → ℤ
second_of_pair table j = slice_index_or table (16 * j + 1) (pos 0)

-- the table holds each of n pairs eight times
abbrev pub IsPairTable : ℕ → List ℤ → Type 0
IsPairTable n table =
    (j : ℕ)
    → j < n
    → chunk (16 * j) 16 table ≡ alternation 8 (first_of_pair table j) (second_of_pair table j)

-- the dot product of a row's samples, from index p on, with the coefficients of n pairs. Pair j
-- applies to the samples at p + 2 j and p + 2 j + 1
abbrev pub row_sum : List ℤ → List ℤ → ℕ → ℕ → ℤ
row_sum row table n p =
    sum_of_first n (λ j. pair_at row (first_of_pair table j) (second_of_pair table j) (p + 2 * j))

-- `after` is `before` with g 0 to g 15 added to its 16 items, modulo 2 ^ 32
abbrev pub AreAdded : (ℕ → ℤ) → List ℤ → List ℤ → Type 0
AreAdded g before after =
    (f : ℕ → ℤ)
    → before ≡ run 0 16 (λ i. int_wrap w32 (f i))
    → after ≡ run 0 16 (λ i. int_wrap w32 (f i +ℤ g i))

-- row l of `items`, which holds rows of `line` items
abbrev pub line_of : List ℤ → ℕ → ℕ → List ℤ
line_of items line l = chunk (l * line) line items

-- the sum of `row_sum` over the first n rows, at an index. Each row has its own 80 items of the
-- table, enough for five pairs
abbrev pub sum_of_rows : List ℤ → ℕ → List ℤ → ℕ → ℕ → ℕ → ℤ
sum_of_rows rows line table pairs n p =
    sum_of_first n (λ l. row_sum (line_of rows line l) (line_of table 80 l) pairs p)
