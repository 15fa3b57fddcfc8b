-- Counts of the bytes of a row.
use Rattle.std.proofs.Common.{◌≡◌, ℕ, ℤ, pos, ◌+◌, ◌*◌, ◌<◌, List, [], ◌∷◌, ◌++◌, length, map, take, get_or, cond, suc, arith, unsigned_abs, ◌==◌}
use Rattle.lane_rows.proofs.Common.{All, All-nil, All-cons, sum_by-append, common_steps, count_at}

-- the bytes of two lists are counted
pub both_tallied : (v : ℕ) (xs ys : List ℤ) → count_at v (xs ++ ys) ≡ count_at v xs + count_at v ys
both_tallied v xs ys = sum_by-append (λ z. cond (unsigned_abs z == v) 1 0) xs ys

pub ruleset tallies = (common_steps, both_tallied)

-- the bytes of four more items
pub four_more : (v : ℕ) (row : List ℕ) (k : ℕ)
    → 4 * k + 3 < length row
    → count_at v (map pos (take (4 * (k + 1)) row))
    ≡ count_at v (map pos (take (4 * k) row)) +
    (((cond (get_or row (4 * k) 0 == v) 1 0 + cond (get_or row (4 * k + 1) 0 == v) 1 0) + cond
    (get_or row (4 * k + 2) 0 == v) 1 0)
    + cond (get_or row (4 * k + 3) 0 == v) 1 0)
four_more v row k room = grind (arith, tallies)

pub all_bytes : (row : List ℕ)
    → ((i : ℕ) → get_or row i 0 < 256)
    → All (λ z. unsigned_abs z < 256) (map pos row)
all_bytes [] small = All-nil (λ z. unsigned_abs z < 256)
all_bytes (x ∷ row) small =
    All-cons (λ z. unsigned_abs z < 256) (pos x) (map pos row) (small 0)
    (all_bytes row (λ i. small (suc i)))
