-- Counts by value, and those in bins.
use Rattle.std.proofs.Common.{◌≡◌, ℕ, ℤ, ◌+◌, ◌<◌, ◌≤◌, List, [], ◌∷◌, length, get_or, set, replicate, cond, ◌&&◌, refl, ap, ◌∙◌, arith, if◌then◌else◌, Some, None, unsigned_abs, ◌==◌, nat_lt, length-set, get_or-set_same, get_or-set_other}
use Rattle.stat_kernels.proofs.Common.{All, cases_eq, cases_lt, nat_tests, get_or_past, length-replicate, get_or-replicate, All-head, All-tail, sum_by-cons, count_by-le-length, length-map-range_with_len, get_or-map-range_with_len, fill_by_all, BinsValue, bin_of, bin_sums, is_bin, tallies, count_at, count_by}

-- a count, and the number of counts
pub tally_at : (b : BinsValue) (zs : List ℤ) (k : ℕ)
    → k < b.bins
    → get_or (tallies b zs) k 0 ≡ count_by (λ z. is_bin k (bin_of b (unsigned_abs z))) zs
tally_at b zs k below =
    get_or-map-range_with_len (λ k. count_by (λ z. is_bin k (bin_of b (unsigned_abs z))) zs) 0
    b.bins k k 0 below (omega arith)

pub length-tallies : (b : BinsValue) (zs : List ℤ) → length (tallies b zs) ≡ b.bins
length-tallies b zs =
    length-map-range_with_len (λ k. count_by (λ z. is_bin k (bin_of b (unsigned_abs z))) zs) 0
    b.bins

-- of these samples how many are below v and fall into bin k
abbrev count_below : BinsValue → ℕ → List ℤ → ℕ → ℕ
count_below b v zs k =
    count_by (λ z. nat_lt (unsigned_abs z) v && is_bin k (bin_of b (unsigned_abs z))) zs

-- nothing is counted yet
none_below : (b : BinsValue) (zs : List ℤ) (k : ℕ) → count_below b 0 zs k ≡ 0
none_below b [] k = refl
none_below b (z ∷ zs) k = grind (arith, nat_tests, sum_by-cons, none_below b zs k)

count_below-cons : (b : BinsValue) (v k : ℕ) (z : ℤ) (zs : List ℤ)
    → count_below b v (z ∷ zs) k
    ≡ cond (nat_lt (unsigned_abs z) v && is_bin k (bin_of b (unsigned_abs z))) 1 0 + count_below
    b v zs k
count_below-cons b v k z zs =
    sum_by-cons
    (λ s. cond (nat_lt (unsigned_abs s) v && is_bin k (bin_of b (unsigned_abs s))) 1 0) z zs

-- one more value adds its samples to its bin, if it has one, and to no other
count_next : (b : BinsValue) (v k : ℕ) (zs : List ℤ)
    → count_below b (v + 1) zs k
    ≡ count_below b v zs k + (if is_bin k (bin_of b v) then count_at v zs else 0)
count_next b v k [] = grind arith
count_next b v k (z ∷ zs) =
    let here = sum_by-cons (λ s. cond (unsigned_abs s == v) 1 0) z zs in
    grind (
      arith,
      nat_tests,
      cases_eq (unsigned_abs z) v,
      cases_lt (unsigned_abs z) v,
      count_below-cons b (v + 1) k z zs,
      count_below-cons b v k z zs,
      here,
      count_next b v k zs,
    )

-- to the counts `before`, the samples below v are added
pub record AreCounted (b : BinsValue) (zs : List ℤ) (before : List ℕ) (v : ℕ) (now : List ℕ) :
    Type 0 where
  pub size : length now ≡ length before
  pub each : (k : ℕ)
      → get_or now k 0
      ≡ get_or before k 0 + (if nat_lt k (length before) then count_below b v zs k else 0)

module _ (b : BinsValue) (zs : List ℤ) (before : List ℕ) where
  pub counted_none : AreCounted b zs before 0 before
  counted_none = record { size = refl; each = λ k. grind (arith, nat_tests, none_below b zs k) }

  module _ (v : ℕ) (now : List ℕ) (are : AreCounted b zs before v now) where
    -- one more value, with a bin or without
    pub counted_some : (next : List ℕ) (i bin total : ℕ)
        → next ≡ set now i (get_or now i 0 + total)
        → i ≡ bin
        → bin_of b v ≡ Some bin
        → bin < length before
        → total ≡ count_at v zs
        → AreCounted b zs before (v + 1) next
    counted_some next i bin total is at falls below counted =
        let sum = get_or now bin 0 + count_at v zs in
        let room : bin < length now = omega (arith, below, are.size) in
        rw (is, at, counted) (record {
          size = length-set now bin sum ∙ are.size;
          each =
              λ k. grind (
                arith,
                nat_tests,
                cases_eq k bin,
                get_or-set_same now bin sum 0 room,
                get_or-set_other now bin k sum 0,
                ap (is_bin k) falls,
                count_next b v k zs,
                are.each k,
              );
        })

    pub counted_other : bin_of b v ≡ None → AreCounted b zs before (v + 1) now
    counted_other outside = record {
      size = are.size;
      each = λ k. grind (arith, nat_tests, ap (is_bin k) outside, count_next b v k zs, are.each k);
    }

    -- no count is above the number of samples and the count before
    pub counted_few : (bin : ℕ)
        → bin_of b v ≡ Some bin
        → bin < length before
        → get_or now bin 0 + count_at v zs ≤ get_or before bin 0 + length zs
    counted_few bin is room =
        let few =
        count_by-le-length
        (λ z. nat_lt (unsigned_abs z) (v + 1) && is_bin bin (bin_of b (unsigned_abs z))) zs in
        grind (arith, nat_tests, are.each bin, count_next b v bin zs, ap (is_bin bin) is, few)

-- all values are counted
all_below : (b : BinsValue) (k : ℕ) (zs : List ℤ)
    → All (λ z. unsigned_abs z < 256) zs
    → count_below b 256 zs k ≡ count_by (λ z. is_bin k (bin_of b (unsigned_abs z))) zs
all_below b k [] small = refl
all_below b k (z ∷ zs) small =
    let here = All-head (λ z. unsigned_abs z < 256) z zs small in
    let rest = all_below b k zs (All-tail (λ z. unsigned_abs z < 256) z zs small) in
    grind (
      arith,
      nat_tests,
      here,
      rest,
      count_below-cons b 256 k z zs,
      sum_by-cons (λ s. cond (is_bin k (bin_of b (unsigned_abs s))) 1 0) z zs,
    )

pub counted_all : (b : BinsValue) (zs : List ℤ) (before now : List ℕ)
    → length before ≡ b.bins
    → All (λ z. unsigned_abs z < 256) zs
    → AreCounted b zs before 256 now
    → now ≡ bin_sums before (tallies b zs)
counted_all b zs before now size small are =
    fill_by_all (λ k. get_or before k 0 + get_or (tallies b zs) k 0) now (length before) 0 are.size
    (λ k below. grind (
      arith,
      nat_tests,
      are.each k,
      all_below b k zs small,
      tally_at b zs k
          (omega (arith, below, size)),
    ))

pub zero_at : (n v : ℕ) → get_or (replicate {A = ℕ} n 0) v 0 ≡ 0
zero_at n v =
    grind (
      arith,
      cases_lt v n,
      get_or-replicate {A = ℕ} n v 0 0,
      get_or_past (replicate {A = ℕ} n 0) v 0,
      length-replicate {A = ℕ} n 0,
    )
