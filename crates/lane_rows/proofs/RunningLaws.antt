-- Running sums in lanes, sixteen at a time.
use Rattle.std.proofs.Common.{◌≡◌, ℕ, ◌+◌, ◌-◌, ◌%◌, ◌<◌, ◌≤◌, List, [], ◌∷◌, ◌++◌, zero, suc, length, map, take, drop, get_or, set, replicate, refl, ap, ◌∙◌, sym, subst, w8, Fits, arith, take-take, take_all}
use Rattle.lane_rows.proofs.Common.{sum, range_with_len, take-add, map-append, sum_by-append, sum_by_more, length-chunk, range-append, sum_below}
use Rattle.std.specs.Simd.Lanes.{zip2, Each1, pick_l, chunk, put_chunk}
use Rattle.std.proofs.lemmas.List.{take_more_set}
use Rattle.std.proofs.lemmas.List.FromFn.{map-range_with_len_more}
use Rattle.std.proofs.lemmas.Simd.{pick_l_whole, Each1-get_or, put_chunk_whole}
use Rattle.std.proofs.lemmas.Slice.{take-put_mid}
use Rattle.lane_rows.proofs.RunLaws.{loaded_is}
use borrow.Rule.Slice.PartMut.{put_mid}

-- each lane plus the lane that `ks` selects for it, or 0
abbrev shifted : List ℕ → List ℕ → List ℕ
shifted ks xs = zip2 (λ a b. (a + b) % 65536) xs (pick_l 0 (replicate 8 0 ++ xs) ks)

-- the running sums that end with each pair of neighbours, from the sums of the pairs
abbrev by_pairs : List ℕ → List ℕ
by_pairs pairs =
    shifted (0 ∷ 0 ∷ 0 ∷ 0 ∷ 11 ∷ 11 ∷ 11 ∷ 11 ∷ [])
    (shifted (0 ∷ 0 ∷ 8 ∷ 9 ∷ 0 ∷ 0 ∷ 12 ∷ 13 ∷ [])
    (shifted (0 ∷ 8 ∷ 9 ∷ 10 ∷ 0 ∷ 12 ∷ 13 ∷ 14 ∷ []) pairs))

-- all running sums: before each of those, the sum without the pair's second item
abbrev between : List ℕ → List ℕ → List ℕ
between sums odds =
    map (λ a. a)
    (pick_l 0 (zip2 (λ a b. (a + (65536 - b)) % 65536) sums odds ++ sums)
    (0 ∷ 8 ∷ 1 ∷ 9 ∷ 2 ∷ 10 ∷ 3 ∷ 11 ∷ 4 ∷ 12 ∷ 5 ∷ 13 ∷ 6 ∷ 14 ∷ 7 ∷ 15 ∷ []))

abbrev picked : List ℕ → List ℕ → List ℕ
picked ks xs = map (λ a. a) (pick_l 0 (xs ++ xs) ks)

abbrev in_lanes : List ℕ → List ℕ
in_lanes xs =
    let odds = picked (1 ∷ 3 ∷ 5 ∷ 7 ∷ 9 ∷ 11 ∷ 13 ∷ 15 ∷ []) xs in
    between
    (by_pairs
    (zip2 (λ a b. (a + b) % 65536) (picked (0 ∷ 2 ∷ 4 ∷ 6 ∷ 8 ∷ 10 ∷ 12 ∷ 14 ∷ []) xs) odds))
    odds

abbrev first_sums : List ℕ → List ℕ
first_sums xs = map (λ k. sum (take k xs)) (range_with_len 1 16)

same_lanes : {x y : ℕ} {xs ys : List ℕ} → x ≡ y → xs ≡ ys → x ∷ xs ≡ y ∷ ys
same_lanes first rest = cc

by_pairs_are : (p0 p1 p2 p3 p4 p5 p6 p7 : ℕ) → p0 + p1 + p2 + p3 + p4 + p5 + p6 + p7 < 65536
    → by_pairs (p0 ∷ p1 ∷ p2 ∷ p3 ∷ p4 ∷ p5 ∷ p6 ∷ p7 ∷ [])
    ≡ p0
    ∷ (p0 + p1)
    ∷ (p0 + p1 + p2)
    ∷ (p0 + p1 + p2 + p3)
    ∷ (p0 + p1 + p2 + p3 + p4)
    ∷ (p0 + p1 + p2 + p3 + p4 + p5)
    ∷ (p0 + p1 + p2 + p3 + p4 + p5 + p6)
    ∷ (p0 + p1 + p2 + p3 + p4 + p5 + p6 + p7)
    ∷ []
by_pairs_are p0 p1 p2 p3 p4 p5 p6 p7 small = search (arith, same_lanes) depth 20

sixteen_sums : (a0 a1 a2 a3 a4 a5 a6 a7 a8 a9 a10 a11 a12 a13 a14 a15 : ℕ)
    → a0 < 256
    → a1 < 256
    → a2 < 256
    → a3 < 256
    → a4 < 256
    → a5 < 256
    → a6 < 256
    → a7 < 256
    → a8 < 256
    → a9 < 256
    → a10 < 256
    → a11 < 256
    → a12 < 256
    → a13 < 256
    → a14 < 256
    → a15 < 256
    → in_lanes
    (a0 ∷ a1 ∷ a2 ∷ a3 ∷ a4 ∷ a5 ∷ a6 ∷ a7 ∷ a8 ∷ a9 ∷ a10 ∷ a11 ∷ a12 ∷ a13 ∷ a14 ∷ a15 ∷ [])
    ≡ first_sums
    (a0 ∷ a1 ∷ a2 ∷ a3 ∷ a4 ∷ a5 ∷ a6 ∷ a7 ∷ a8 ∷ a9 ∷ a10 ∷ a11 ∷ a12 ∷ a13 ∷ a14 ∷ a15 ∷ [])
sixteen_sums a0 a1 a2 a3 a4 a5 a6 a7 a8 a9 a10 a11 a12 a13 a14 a15 h0 h1 h2 h3 h4 h5 h6 h7 h8 h9
    h10 h11 h12 h13 h14 h15 =
    let odds = a1 ∷ a3 ∷ a5 ∷ a7 ∷ a9 ∷ a11 ∷ a13 ∷ a15 ∷ [] in
    let pairs : zip2 (λ a b. (a + b) % 65536) (a0 ∷ a2 ∷ a4 ∷ a6 ∷ a8 ∷ a10 ∷ a12 ∷ a14 ∷ [])
    odds
    ≡ (a0 + a1)
    ∷ (a2 + a3)
    ∷ (a4 + a5)
    ∷ (a6 + a7)
    ∷ (a8 + a9)
    ∷ (a10 + a11)
    ∷ (a12 + a13)
    ∷ (a14 + a15)
    ∷ [] =
    search (arith, same_lanes) depth 20 in
    ap (λ ps. between (by_pairs ps) odds) pairs
    ∙ ap (λ sums. between sums odds)
    (by_pairs_are (a0 + a1) (a2 + a3) (a4 + a5) (a6 + a7) (a8 + a9) (a10 + a11) (a12 + a13)
    (a14 + a15) (omega arith))
    ∙ same_lanes (omega arith)
    (same_lanes (omega arith) (same_lanes (omega arith) (same_lanes (omega arith) (
    same_lanes (omega arith)
    (same_lanes (omega arith) (same_lanes (omega arith) (same_lanes (omega arith) (
    same_lanes (omega arith)
    (same_lanes (omega arith) (same_lanes (omega arith) (same_lanes (omega arith) (
    same_lanes (omega arith)
    (same_lanes (omega arith)
    (same_lanes (omega arith) (same_lanes (omega arith) (refl))))))))))))))))

pub running_sums : (xs : List ℕ) → length xs ≡ 16 → Each1 (Fits w8) xs → in_lanes xs ≡ first_sums xs
running_sums xs long fits =
    let small : (k : ℕ) → k < 16 → get_or xs k 0 < 256 =
    λ k below. (Each1-get_or (Fits w8) xs k 0 (omega (arith, long, below)) fits).fits in
    subst (λ u. in_lanes u ≡ first_sums u) (pick_l_whole 0 xs 16 long)
    (sixteen_sums _ _ _ _ _ _ _ _ _ _ _ _ _ _ _ _ (small 0 (omega arith))
    (small 1 (omega arith)) (small 2 (omega arith)) (small 3 (omega arith))
    (small 4 (omega arith)) (small 5 (omega arith)) (small 6 (omega arith))
    (small 7 (omega arith)) (small 8 (omega arith)) (small 9 (omega arith))
    (small 10 (omega arith)) (small 11 (omega arith)) (small 12 (omega arith))
    (small 13 (omega arith)) (small 14 (omega arith)) (small 15 (omega arith)))

-- ---- a block of a row

abbrev pub plus : List ℕ → List ℕ → List ℕ
plus = zip2 (λ a b. (a + b) % 4294967296)

along : (f g h : ℕ → ℕ) (t i k n : ℕ)
    → ((j : ℕ) → j < n → (h (k + j) + (f (i + j) + t) % 4294967296) % 4294967296 ≡ g (k + j))
    → plus (map h (range_with_len k n)) (plus (map f (range_with_len i n)) (replicate n t))
    ≡ map g (range_with_len k n)
along f g h t i k zero same = refl
along f g h t i k (suc n) same =
    let here : i + 0 ≡ i = omega arith in
    let there : k + 0 ≡ k = omega arith in
    let rest = along f g h t (i + 1) (k + 1) n (λ j below.
    let left : i + 1 + j ≡ i + suc j = omega arith in
    let right : k + 1 + j ≡ k + suc j = omega arith in
    rw (left, right) (same (suc j) (omega arith))) in
    cc (here, there, same 0 (omega arith), rest)

-- eight lanes as both halves of sixteen
abbrev pub doubled : List ℕ → List ℕ
doubled xs =
    pick_l 0 (xs ++ xs) (0 ∷ 1 ∷ 2 ∷ 3 ∷ 4 ∷ 5 ∷ 6 ∷ 7 ∷ 0 ∷ 1 ∷ 2 ∷ 3 ∷ 4 ∷ 5 ∷ 6 ∷ 7 ∷ [])

abbrev cut : List ℕ → ℕ → List ℕ
cut xs i = take (i + 16 - i) (drop i xs)

cut_is : (xs : List ℕ) (i : ℕ) → cut xs i ≡ take 16 (drop i xs)
cut_is xs i = let e : i + 16 - i ≡ 16 = omega arith in ap (λ n. take n (drop i xs)) e

module _ (row above : List ℕ) (i : ℕ) (inside : i + 16 ≤ length row) where
  sum_after : (j : ℕ)
      → j ≤ 16
      → sum (take j (chunk 0 16 (cut row i))) + sum (take i row) ≡ sum (take (i + j) row)
  sum_after j below =
      let part : take j (chunk 0 16 (cut row i)) ≡ take j (drop i row) =
      take-take j 16 (cut row i) below
      ∙ ap (take j) (cut_is row i)
      ∙ take-take j 16 (drop i row) below in
      omega (
        arith,
        ap sum part,
        ap sum (take-add i j row),
        sum_by-append (λ x. x) (take i row) (take j (drop i row)),
      )

  lane : (j : ℕ)
      → j < 16
      →
      (get_or above (i + j) 0 +
      (sum (take (1 + j) (chunk 0 16 (cut row i))) + sum (take i row) % 4294967296) %
      4294967296)
      % 4294967296
      ≡ sum_below above row (i + j)
  lane j below =
      let e : i + (1 + j) ≡ i + j + 1 = omega arith in
      let sums = sum_after (1 + j) (omega arith) ∙ ap (λ n. sum (take n row)) e in
      omega (arith, sums)

  -- the total once the block is added
  pub block_total : (sums total : List ℕ) (n : ℕ)
      → n ≡ i + 16
      → sums ≡ first_sums (chunk 0 16 (cut row i))
      → total ≡ replicate 8 (sum (take i row) % 4294967296)
      → plus (pick_l 0 (sums ++ sums) (replicate 8 15)) total
      ≡ replicate 8 (sum (take n row) % 4294967296)
  block_total sums total n next are is =
      let sums_are = sum_after 16 (omega arith) ∙ ap (λ m. sum (take m row)) (sym next) in
      let wraps :
      (sum (take 16 (chunk 0 16 (cut row i))) + sum (take i row) % 4294967296) % 4294967296
      ≡ sum (take n row) % 4294967296 =
      omega (arith, sums_are) in
      ap (λ l. plus (pick_l 0 (l ++ l) (replicate 8 15)) total) are
      ∙ ap (plus (replicate 8 (sum (take 16 (chunk 0 16 (cut row i)))))) is ∙ ap (replicate 8) wraps

  -- the sums of the block
  pub block_is : (sums total : List ℕ)
      → i + 16 ≤ length above
      → sums ≡ first_sums (chunk 0 16 (cut row i))
      → total ≡ replicate 8 (sum (take i row) % 4294967296)
      → plus (chunk 0 16 (cut above i)) (plus sums (doubled total))
      ≡ map (sum_below above row) (range_with_len i 16)
  block_is sums total room are is =
      rw (loaded_is 16 above i 0 room, are, is)
      (along (λ k. sum (take k (chunk 0 16 (cut row i)))) (sum_below above row)
      (λ k. get_or above k 0) (sum (take i row) % 4294967296) 1 i 16 lane)

  -- the sums in a row once the block is written
  pub block_written : (block out : List ℕ) (n m : ℕ)
      → n ≡ i + 16
      → length out ≡ length row
      → block ≡ map (sum_below above row) (range_with_len i 16)
      → take i out ≡ map (sum_below above row) (range_with_len 0 i)
      → take n (put_mid i m out (put_chunk 0 (cut out i) block))
      ≡ map (sum_below above row) (range_with_len 0 n)
  block_written block out n m next long is before =
      let g = sum_below above row in
      let same : length (cut out i) ≡ length block =
      ap length (cut_is out i) ∙ length-chunk i 16 out (omega arith) ∙ sym (ap length is) in
      let start : 0 + i ≡ i = omega arith in
      ap (λ l. take n (put_mid i m out l)) (put_chunk_whole (cut out i) block same ∙ is)
      ∙ take-put_mid i m out (map g (range_with_len i 16)) n next (omega arith)
      ∙ cc (
        before,
        start,
        next,
        map-append g (range_with_len 0 i) (range_with_len (0 + i) 16),
        range-append 0 i 16,
      )

-- ---- one more index

-- the sum of the row with one more sample
pub total_more : (row : List ℕ) (k total x : ℕ)
    → k < length row
    → total ≡ sum (take k row) % 4294967296
    → x ≡ get_or row k 0
    → (total + x) % 4294967296 ≡ sum (take (k + 1) row) % 4294967296
total_more row k total x below is at =
    omega (arith, is, at, sum_by_more (λ n. n) row k 0 below)

pub place_written : (g : ℕ → ℕ) (out : List ℕ) (k v : ℕ)
    → k < length out
    → take k out ≡ map g (range_with_len 0 k)
    → v ≡ g k
    → take (k + 1) (set out k v) ≡ map g (range_with_len 0 (k + 1))
place_written g out k v room before is =
    let next : 0 + k ≡ k = omega arith in
    cc (take_more_set out k v room, before, is, map-range_with_len_more g 0 k k next)

-- all indices are written
pub all_written : (g : ℕ → ℕ) (out : List ℕ) (n k : ℕ)
    → length out ≤ n
    → n ≡ k
    → take k out ≡ map g (range_with_len 0 k)
    → out ≡ map g (range_with_len 0 n)
all_written g out n k long end are =
    sym (take_all k out (omega arith)) ∙ are ∙ ap (λ n. map g (range_with_len 0 n)) (sym end)
