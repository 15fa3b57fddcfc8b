-- Rows that are written item by item, block by block, and in two parts.
use Rattle.std.proofs.Common.{◌≡◌, ℕ, ℤ, ◌+◌, ◌≤◌, List, [], ◌∷◌, ◌++◌, length, take, drop, ap, sym, refl, arith, append_assoc, length-append, length-take-le, take-append-drop}
use Rattle.lane_rows.proofs.Common.{take-add, map-append, zip2, common_steps, run, run-append}
use Rattle.std.proofs.lemmas.List.{take_at, drop_at}

pub zip2-append : (f : ℤ → ℤ → ℤ) (xs ys us vs : List ℤ)
    → length xs ≡ length ys
    → zip2 f (xs ++ us) (ys ++ vs) ≡ zip2 f xs ys ++ zip2 f us vs
zip2-append f [] [] us vs same = refl
zip2-append f [] (y ∷ ys) us vs same = absurd (omega (arith, same))
zip2-append f (x ∷ xs) [] us vs same = absurd (omega (arith, same))
zip2-append f (x ∷ xs) (y ∷ ys) us vs same =
    ap (λ l. f x y ∷ l) (zip2-append f xs ys us vs (omega (arith, same)))

-- one more item
pub ruleset items = (common_steps, zip2-append)

-- the block of n items from item i on, after the items before it
pub block_read : {A : Type 0} (xs : List A) (i n : ℕ)
    → (take n (drop i xs) ≡ take n (drop i xs))
    × (take (i + n) xs ≡ take i xs ++ take n (drop i xs))
block_read xs i n = (refl, take-add i n xs)

-- the items up to the end of a block that was written
pub block_written : {A : Type 0} (xs ws rest : List A) (i j : ℕ)
    → i ≤ length xs
    → j ≡ i + length ws
    → take j (take i xs ++ (ws ++ rest)) ≡ take i xs ++ ws
block_written xs ws rest i j room next =
    rw (← append_assoc)
    (take_at (take i xs ++ ws) rest j
    (omega (arith, length-append (take i xs) ws, length-take-le i xs room)))

-- the items after it
pub block_left : {A : Type 0} (xs ws rest : List A) (i j : ℕ)
    → i ≤ length xs
    → j ≡ i + length ws
    → drop j (take i xs ++ (ws ++ rest)) ≡ rest
block_left xs ws rest i j room next =
    rw (← append_assoc)
    (drop_at (take i xs ++ ws) rest j
    (omega (arith, length-append (take i xs) ws, length-take-le i xs room)))

-- the two parts of a row, joined
pub parts_joined : {A : Type 0} (xs : List A) (n : ℕ)
    → (take n xs ≡ take n xs) × (xs ≡ take n xs ++ drop n xs)
parts_joined xs n = (refl, sym (take-append-drop n xs))

-- the two parts of a row
pub ruleset parts = (items, parts_joined)

-- one more block
pub ruleset blocks = (items, block_read, block_written, block_left)

-- one more item of a run
pub run_next : (f : ℕ → ℤ) (i : ℕ)
    → (run 0 i f ≡ run 0 i f) × (run 0 (i + 1) f ≡ run 0 i f ++ f i ∷ [])
run_next f i = let here : 0 + i ≡ i = omega arith in (refl, rw (run-append f 0 i 1, here) refl)

pub ruleset runs = (common_steps, run_next)
