-- Rows that are written piece by piece.
use Rattle.std.proofs.Common.{◌≡◌, ℕ, ℤ, ◌+◌, ◌-◌, ◌*◌, ◌/◌, ◌%◌, ◌<◌, ◌≤◌, List, length, map, take, min, ap, ◌∙◌, sym, arith, take_all}
use Rattle.std.proofs.lemmas.Grind.{div_ceil_times}
use Rattle.image_core.proofs.Common.{map-append, put_mid, run}
use Rattle.std.proofs.lemmas.Slice.{take-put_mid}
use Rattle.vx_base.proofs.TableLaws.{run-append}

-- pieces of m items that are not all written yet begin in the row
pub piece_begins : (n m k : ℕ) → 1 ≤ m → k < n / m + min 1 (n % m) → m * k < n
piece_begins n m k some h = begins (n / m + min 1 (n % m)) h (div_ceil_times n m some).1
  where
    begins : (c : ℕ) → k < c → c * m < n + m → m * k < n
    begins c below bound = grind arith

-- and then they end with it
pub pieces_end : (n m k : ℕ) → 1 ≤ m → n / m + min 1 (n % m) ≤ k → min (m * k) n ≡ n
pieces_end n m k some h = ends (n / m + min 1 (n % m)) h (div_ceil_times n m some).0
  where
    ends : (c : ℕ) → c ≤ k → n ≤ c * m → min (m * k) n ≡ n
    ends c below bound = grind arith

-- one more piece of a row is written, from item `at` on to `end`
pub piece_written : {T : Type 0} (value : T → ℤ) (g : ℕ → ℤ) (out ws : List T) (x m k r n end : ℕ)
    → length out ≡ n
    → m * k < n
    → end ≡ min (m * k + m) n
    → map value (take (min (m * k) n) out) ≡ run x (min (m * k) n) g
    → length ws ≡ end - m * k
    → map value ws ≡ run (x + m * k) (length ws) g
    → map value (take (min (m * (k + 1)) n) (put_mid (m * k) r out ws))
    ≡ run x (min (m * (k + 1)) n) g
piece_written value g out ws x m k r n end size begun at_end before long is =
    let first : min (m * k) n ≡ m * k = omega arith in
    let next : m * (k + 1) ≡ m * k + m = grind arith in
    let more : min (m * (k + 1)) n ≡ m * k + length ws = omega (arith, next, long, at_end) in
    let so_far = rw first at before in
    rw (
      take-put_mid (m * k) r out ws (min (m * (k + 1)) n) more (omega (arith, size)),
      map-append value (take (m * k) out) ws,
      so_far,
      is,
      more,
    )
    (sym (run-append g x (m * k) (length ws)))

-- a row after all its pieces are written
pub row_of_pieces : {T : Type 0} (value : T → ℤ) (g : ℕ → ℤ) (out : List T) (x m k n : ℕ)
    → 1 ≤ m
    → length out ≡ n
    → n / m + min 1 (n % m) ≤ k
    → map value (take (min (m * k) n) out) ≡ run x (min (m * k) n) g
    → map value out ≡ run x n g
row_of_pieces value g out x m k n some size h written =
    let end = pieces_end n m k some h in
    ap (map value) (sym (take_all (min (m * k) n) out (omega (arith, end, size))))
    ∙ written
    ∙ ap (λ i. run x i g) end
