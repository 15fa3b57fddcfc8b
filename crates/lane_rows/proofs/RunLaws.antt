-- Rows that are written as runs, block by block and item by item.
use Rattle.std.proofs.Common.{◌≡◌, ℕ, ℤ, ◌+◌, ◌-◌, ◌*◌, ◌≤◌, min, List, length, map, take, drop, get_or, ap, ◌∙◌, sym, arith, zero-add, take-take, take_all}
use Rattle.lane_rows.proofs.Common.{range_with_len, chunk, length-map, map-append, take-put_mid, put_mid}
use Rattle.std.proofs.lemmas.Simd.{pick_l-range_with_len}
use Rattle.vx_base.specs.Image.{run}
use Rattle.std.proofs.lemmas.List.{take-map}
use Rattle.vx_base.proofs.TableLaws.{run-append, length-run, run_part}
use Rattle.vx_base.proofs.WindowLaws.{run_shifted}

-- one more part of a run, from item `at` on
pub part_written : {T : Type 0} (value : T → ℤ) (g : ℕ → ℤ) (out ws : List T) (at m end : ℕ)
    → at ≤ length out
    → end ≡ at + length ws
    → map value (take at out) ≡ run 0 at g
    → map value ws ≡ run 0 (length ws) (λ i. g (at + i))
    → map value (take end (put_mid at m out ws)) ≡ run 0 end g
part_written value g out ws at m end room more before is =
    let index : (i : ℕ) → at + (0 + i) ≡ 0 + at + i = λ i. omega arith in
    let these =
    is ∙ run_shifted (λ i. g (at + i)) g 0 (0 + at) (length ws) (λ i h. ap g (index i)) in
    rw (
      take-put_mid at m out ws end more room,
      map-append value (take at out) ws,
      before,
      these,
      more,
    ) (sym (run-append g 0 at (length ws)))

-- one more block of 32 items, from item i on
pub block_at : {T : Type 0} (value : T → ℤ) (g : ℕ → ℤ) (out ws : List T) (i m end : ℕ)
    → i + 32 ≤ length out
    → end ≡ i + 32
    → map value (take i out) ≡ run 0 i g
    → map value ws ≡ run i 32 g
    → map value (take end (put_mid i m out ws)) ≡ run 0 end g
block_at value g out ws i m end room to before is =
    let long : length ws ≡ 32 = sym (length-map ws value) ∙ ap length is ∙ length-run g i 32 in
    part_written value g out ws i m end (omega arith) (omega (arith, long, to)) before
    (is
    ∙ run_shifted g (λ k. g (i + k)) i 0 32 (λ k h. ap (λ j. g (i + j)) (sym (zero-add k)))
    ∙ ap (λ n. run 0 n (λ k. g (i + k))) (sym long))

pub block_of_run : {T : Type 0} (value : T → ℤ) (g : ℕ → ℤ) (out ws : List T) (k m : ℕ)
    → 32 * k + 32 ≤ length out
    → map value (take (32 * k) out) ≡ run 0 (32 * k) g → map value ws ≡ run (32 * k) 32 g
    → map value (take (32 * (k + 1)) (put_mid (32 * k) m out ws)) ≡ run 0 (32 * (k + 1)) g
block_of_run value g out ws k m room before is =
    block_at value g out ws (32 * k) m (32 * (k + 1)) room (omega arith) before is

-- the items written by the first blocks, up to the last block
pub shorter_run : {T : Type 0} (value : T → ℤ) (g : ℕ → ℤ) (out : List T) (i n : ℕ)
    → i ≤ n
    → map value (take n out) ≡ run 0 n g
    → map value (take i out) ≡ run 0 i g
shorter_run value g out i n less is =
    ap (map value) (sym (take-take i n out less))
    ∙ sym (take-map value i (take n out))
    ∙ ap (take i) is
    ∙ run_part g n 0 i (omega (arith, less))

-- one more block of at most 32 items
pub block_written : {T : Type 0} (value : T → ℤ) (g : ℕ → ℤ) (out ws : List T) (k m n e : ℕ)
    → length out ≡ n
    → e ≡ min (32 * k + 32) n
    → 32 * k ≤ n
    → map value (take (min (32 * k) n) out) ≡ run 0 (min (32 * k) n) g
    → length ws ≡ e - 32 * k
    → map value ws ≡ run 0 (length ws) (λ i. g (32 * k + i))
    → map value (take (min (32 * (k + 1)) n) (put_mid (32 * k) m out ws))
    ≡ run 0 (min (32 * (k + 1)) n) g
block_written value g out ws k m n e size end begun before long is =
    let first : min (32 * k) n ≡ 32 * k = omega arith in
    let more : min (32 * (k + 1)) n ≡ 32 * k + length ws = omega (arith, long, end) in
    part_written value g out ws (32 * k) m (min (32 * (k + 1)) n) (omega (arith, size)) more
    (ap (λ i. map value (take i out)) (sym first) ∙ before ∙ ap (λ i. run 0 i g) first) is

-- the whole row is written
pub whole_run : {T : Type 0} (value : T → ℤ) (g : ℕ → ℤ) (out : List T) (i n : ℕ)
    → length out ≡ n
    → i ≡ n
    → map value (take i out) ≡ run 0 i g
    → map value out ≡ run 0 n g
whole_run value g out i n long end is =
    ap (map value) (sym (take_all i out (omega (arith, long, end)))) ∙ is ∙ ap (λ m. run 0 m g) end

-- items of a row that are loaded
pub loaded_is : {A : Type 0} (n : ℕ) (xs : List A) (i : ℕ) (d : A)
    → i + n ≤ length xs
    → chunk 0 n (take (i + n - i) (drop i xs)) ≡ map (λ k. get_or xs k d) (range_with_len i n)
loaded_is n xs i d inside =
    let e : i + n - i ≡ n = omega arith in
    ap (λ m. take n (take m (drop i xs))) e
    ∙ take-take n n (drop i xs) (omega arith)
    ∙ sym (pick_l-range_with_len d xs i n inside)
