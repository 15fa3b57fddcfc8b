-- Blocks of a text, of which it was found out where numbers begin.
use Rattle.std.proofs.Common.{◌≡◌, ℕ, zero, suc, ◌+◌, ◌-◌, ◌/◌, ◌%◌, ◌^◌, ◌<◌, ◌≤◌, ◌⊎◌, inl, inr, Bool, true, false, not, cond, nat_lt, eqb, if◌then◌else◌, List, [], ◌∷◌, map, length, drop, replicate, Some, refl, ap, sym, ◌∙◌, arith, w8, w64, bit_and, slice_index, get_or-set_same, get_or-set_other, drop-drop, length-drop, lt-ltb, le-ltb}
use Rattle.pgm_images.proofs.Common.{nat_tests, set, cases_eq, cases_lt, count_trailing_zeros, begins_digit, take_next, TakesNumber, FindsNumber, FindNumbers}
use Rattle.std.specs.Int.{bit_at}
use Rattle.std.proofs.lemmas.Simd.{bitmask_splat, bit_mask_l}
use Rattle.std.proofs.lemmas.List.{get_or-map}
use Rattle.std.proofs.lemmas.Bool.{cases_order, both_ways}
use Rattle.std.proofs.lemmas.Nat.Bits.{bit_at_lowest, bit_at-suc, bit_at-zero, bit_at_and, bit_at-trailing_zeros}
use lib.Lanes.{mask_l, top, zip2}
use mir.Val.{bits, hbits}
use Rattle.pgm_images.specs.Marks.{begins_space}
use Rattle.pgm_images.proofs.GapLemmas.{space_is}
use Rattle.pgm_images.proofs.SpacedLemmas.{spaced_of}

-- ---- masks

one_if_any : (n : ℕ) → ◌≡◌ {A = ℕ} (cond (not (eqb n 0)) 1 0) (if nat_lt 0 n then 1 else 0)
one_if_any n = grind (arith, nat_tests)

-- a bit for each item that isn't 0, as lanes make it
pub any_bit : (items : List ℕ) (i : ℕ) → length items ≡ 64 → i < 64
    → bit_at
    (mask_l
    (map (top (hbits w8))
    (zip2 (λ a b. cond (not (eqb a b)) (2 ^ bits w8 - 1) 0) items (replicate 64 0)))
    % 2 ^ 64)
    i
    ≡ (if nat_lt 0 (slice_index items i) then 1 else 0)
any_bit items i long within =
    let is : ℕ → Bool = λ x. not (eqb x 0) in
    ap (λ n. bit_at n i) (bitmask_splat w8 (λ a b. not (eqb a b)) items 64 0 long (omega arith))
    ∙ bit_mask_l (map is items) i
    ∙ ap (λ b. cond b 1 0) (get_or-map is items i 0 false (omega (arith, long)))
    ∙ one_if_any (slice_index items i)

-- of a number that isn't 0 and the one before it: their halves
half_before : (n : ℕ)
    → 0 < n
    → (((n - 1) / 2 ≡ n / 2) × (n % 2 ≡ 1)) ⊎ (((n - 1) / 2 ≡ n / 2 - 1) × (n % 2 ≡ 0))
half_before n some = elim (cases_eq (n % 2) 0) [
  | inl even ↦ inr (omega (arith, even), even)
  | inr odd ↦ inl (omega (arith, odd), omega (arith, odd))
]

some_bit : (n i : ℕ) → bit_at n i ≡ 1 → 0 < n
some_bit zero i set = let none = bit_at-zero i in absurd (omega (arith, set, none))
some_bit (suc n) i set = omega arith

bit_more : (n i : ℕ) (m : ℕ) → n / 2 ≡ m → bit_at n (suc i) ≡ bit_at m i
bit_more n i m half = bit_at-suc n i ∙ ap (λ k. bit_at k i) half

-- above a bit that is set, the number before has the same bits
high_kept : (t i n : ℕ) → t < i → bit_at n t ≡ 1 → bit_at (n - 1) i ≡ bit_at n i
high_kept t zero n less set = absurd (omega arith)
high_kept zero (suc i) n less set =
    let odd : n % 2 ≡ 1 = sym (bit_at_lowest n) ∙ set in
    bit_more (n - 1) i (n / 2) (omega (arith, odd)) ∙ sym (bit_at-suc n i)
high_kept (suc t) (suc i) n less set = elim (half_before n (some_bit n (suc t) set)) [
  | inl odd ↦ bit_more (n - 1) i (n / 2) odd.0 ∙ sym (bit_at-suc n i)
  | inr even ↦
      bit_more (n - 1) i (n / 2 - 1) even.0
      ∙ high_kept t i (n / 2) (omega arith) (sym (bit_at-suc n t) ∙ set)
      ∙ sym (bit_at-suc n i)
]

-- and the lowest bit that is set is not in it
lowest_gone : (i n : ℕ) → bit_at n i ≡ 1 → ((j : ℕ) → j < i → bit_at n j ≡ 0) → bit_at (n - 1) i ≡ 0
lowest_gone zero n set below =
    let odd : n % 2 ≡ 1 = sym (bit_at_lowest n) ∙ set in
    bit_at_lowest (n - 1) ∙ omega (arith, odd)
lowest_gone (suc i) n set below =
    let even : n % 2 ≡ 0 = sym (bit_at_lowest n) ∙ below 0 (omega arith) in
    let some = some_bit n (suc i) set in
    bit_more (n - 1) i (n / 2 - 1) (omega (arith, even, some))
    ∙ lowest_gone i (n / 2) (sym (bit_at-suc n i) ∙ set)
    (λ j less. sym (bit_at-suc n j) ∙ below (suc j) (omega arith))

-- a mask without its lowest bit
pub without_lowest : (n t i : ℕ)
    → bit_at n t ≡ 1
    → ((j : ℕ) → j < t → bit_at n j ≡ 0)
    → bit_at (bit_and n (n - 1)) i ≡ (if nat_lt t i then bit_at n i else 0)
without_lowest n t i set below =
    grind (
      arith,
      nat_tests,
      cases_order i t,
      bit_at_and n (n - 1) i,
      lowest_gone t n set below,
      high_kept t i n,
      below i,
    )

-- ---- each position of a block

-- one more position of the block
pub one_told : (maxval : ℕ) (numbers bytes text : List ℕ) (i number count : ℕ)
    → i < length numbers
    → i < length bytes
    → FindsNumber maxval number count (drop i text)
    → FindNumbers maxval i numbers bytes text
    → FindNumbers maxval (i + 1) (set numbers i number) (set bytes i count) text
one_told maxval numbers bytes text i number count in_numbers in_bytes told before place within =
    elim (cases_eq place i) [
      | inl same ↦ rw (same, get_or-set_same, get_or-set_same) told
      | inr other ↦
          rw (
            get_or-set_other numbers i place number 0 other,
            get_or-set_other bytes i place count 0 other,
          ) (before place (omega arith))
    ]

space_no_digit : (text : List ℕ) → begins_space text ≡ true → begins_digit text ≡ false
space_no_digit [] is = refl
space_no_digit (b ∷ text) is = (space_is b is).1

-- whitespace before whitespace
skip_space : (text : List ℕ)
    → begins_space text ≡ true
    → begins_space (drop 1 text) ≡ true
    → take_next text ≡ take_next (drop 1 text)
skip_space [] is next = cc
skip_space (a ∷ []) is next = cc
skip_space (a ∷ b ∷ text) is next =
    let first = (space_is a is).0 in
    let second = (space_is b next).0 in
    rw (first, second, is, next) refl

-- ---- going through a block

-- The bits that are left are those of the numbers after end, where one has just ended.
pub record Walks (bytes text : List ℕ) (left end : ℕ) : Type 0 where
  pub from : ℕ
  pub near : from ≤ end
  pub clear : (i : ℕ) → i < from → bit_at left i ≡ 0
  pub marked : (i : ℕ)
      → from ≤ i
      → i < 64
      → bit_at left i ≡ (if nat_lt 0 (slice_index bytes i) then 1 else 0)
  pub outside : begins_digit (drop end text) ≡ false
  pub digits : (i : ℕ) → from ≤ i → i < end → begins_digit (drop i text) ≡ true

some_bytes : (n : ℕ) → ◌≡◌ {A = ℕ} (if nat_lt 0 n then 1 else 0) 1 → 0 < n
some_bytes n e = grind (arith, nat_tests)

no_bytes : (n : ℕ) → ◌≡◌ {A = ℕ} (if nat_lt 0 n then 1 else 0) 0 → n ≡ 0
no_bytes n e = grind (arith, nat_tests)

module _ (maxval : ℕ) (numbers bytes text : List ℕ)
    (told : FindNumbers maxval 64 numbers bytes text) where
  abbrev at : ℕ → List ℕ
  at i = drop i text

  -- there is only whitespace before the next number
  blank_until : (left end place d : ℕ)
      → Walks bytes text left end
      → end + d ≤ place
      → place < 64
      → ((j : ℕ) → j < place → bit_at left j ≡ 0)
      → (begins_space (at (end + d)) ≡ true) × (take_next (at end) ≡ take_next (at (end + d)))
  blank_until left end place zero walk le within below =
      let here : at end ≡ at (end + zero) = ap at (omega arith) in
      (ap begins_space (sym here) ∙ (told end (omega arith)).kind walk.outside, ap take_next here)
  blank_until left end place (suc d) walk le within below =
      let (space, same) = blank_until left end place d walk (omega arith) within below in
      let none : slice_index bytes (end + d) ≡ 0 =
      no_bytes _
      (sym (walk.marked (end + d) (omega (arith, walk.near)) (omega arith))
      ∙ below (end + d) (omega arith))
      in
      let next : drop 1 (at (end + d)) ≡ at (end + suc d) =
      drop-drop 1 (end + d) text ∙ ap at (omega arith) in
      let other : begins_digit (at (end + suc d)) ≡ false =
      ap begins_digit (sym next) ∙ (told (end + d) (omega arith)).none none space in
      let more = (told (end + suc d) (omega arith)).kind other in (
        more,
        same ∙ skip_space (at (end + d)) space (ap begins_space next ∙ more) ∙ ap take_next next,
      )

  -- the lowest bit is where the next number begins
  pub record Next (left end place : ℕ) : Type 0 where
    pub some : 0 < slice_index bytes place
    pub kept :
        TakesNumber (take_next (at end)) (slice_index numbers place)
        (at (place + slice_index bytes place))
    pub low : slice_index numbers place ≤ maxval
    pub fits : place + slice_index bytes place ≤ length text
    pub walk : Walks bytes text (bit_and left (left - 1)) (place + slice_index bytes place)

  pub walk_on : (left end place : ℕ)
      → Walks bytes text left end
      → place < 64
      → bit_at left place ≡ 1
      → ((j : ℕ) → j < place → bit_at left j ≡ 0)
      → Next left end place
  walk_on left end place walk within set below =
      let here = told place within in
      let from_le : walk.from ≤ place =
      elim (cases_lt place walk.from) [
        | inl less ↦ let none = walk.clear place less in absurd (omega (arith, none, set))
        | inr le ↦ le
      ] in
      let some : 0 < slice_index bytes place =
      some_bytes _ (sym (walk.marked place from_le within) ∙ set) in
      let end_le : end ≤ place = elim (cases_lt place end) [
        | inl less ↦
            absurd
            (both_ways (begins_digit (at place)) (space_no_digit (at place) (here.space some))
            (walk.digits place from_le less))
        | inr le ↦ le
      ] in
      let same : take_next (at end) ≡ take_next (at place) =
      (blank_until left end place (place - end) walk (omega arith) within below).1
      ∙ ap (λ p. take_next (at p)) (omega (arith, end_le)) in
      let found = here.is some in
      let rest : drop (slice_index bytes place) (at place) ≡ at (place + slice_index bytes place) =
      drop-drop (slice_index bytes place) place text in
      record {
        some = some;
        kept =
            record {
              number = found.number;
              is = same
                  ∙ found.is
                  ∙ ap (λ l. Some (found.number, l)) rest;
              least = found.least;
            };
        low = here.low some;
        fits = omega (arith, here.few, some, length-drop place text);
        walk = record {
          from = place + 1;
          near = omega (arith, some);
          clear =
              λ i less. without_lowest left place i set below
              ∙ ap (λ b. if b then bit_at left i else 0) (le-ltb place i (omega (arith, less)));
          marked =
              λ i more less. without_lowest left place i set below
              ∙ ap (λ b. if b then bit_at left i else 0) (lt-ltb place i (omega (arith, more)))
              ∙ walk.marked i (omega (arith, from_le, more)) less;
          outside = ap begins_digit (sym rest) ∙ (spaced_of (at place) found.number _ found.is).3;
          digits =
              λ i more less. ap (λ p. begins_digit (at p)) (omega (arith, more))
              ∙ ap begins_digit (sym (drop-drop (i - place) place text))
              ∙ here.digits (i - place) (omega (arith, more)) (omega (arith, less, more));
        };
      }

  pub walk_lowest : (left end : ℕ)
      → Walks bytes text left end
      → (left ≡ 0 → ⊥)
      → left < 2 ^ 64
      → Next left end (count_trailing_zeros 64 left)
  walk_lowest left end walk some fits =
      let (within, set, below) = bit_at-trailing_zeros w64 left (omega (arith, some)) fits in
      walk_on left end (count_trailing_zeros 64 left) walk within set below
