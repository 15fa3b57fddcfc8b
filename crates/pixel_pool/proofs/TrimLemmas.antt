-- Lemmas on free blocks that are dropped, the largest first.
use Rattle.std.proofs.Common.{◌≡◌, ℕ, ◌+◌, ◌*◌, ◌-◌, ◌<◌, ◌≤◌, List, length, get_or, length-set, ap, ◌∙◌, inl, inr, arith}
use Rattle.std.proofs.Math.Nat.{add-mul}
use Rattle.std.proofs.lemmas.Bool.{cases_lt}
use Rattle.std.proofs.lemmas.List.{get_or-set_other}
use Rattle.std.proofs.lemmas.List.Sums.{sum_by-set}
use Rattle.pixel_pool.specs.Classes.{class_size, class_count}
use Rattle.pixel_pool.specs.Free.{free_count, samples_below, HasFree, IsTrim, with_one, without_one, DropsLargest, LosesBlocks, LosesLargestFirst, LosesNoMore}
use Rattle.pixel_pool.proofs.ClassLemmas.{capacity_mono}
use Rattle.pixel_pool.proofs.FreeLemmas.{free_within, capacity_set}

-- the number and the total capacity of the free blocks, with one more block
one_more : (free : List ℕ) (class : ℕ)
    → class < length free
    → free_count (with_one free class) ≡ free_count free + 1
one_more free class inside =
    omega (arith, sum_by-set (λ n. n) free class (get_or free class 0 + 1) 0 inside)

capacity_more : (free : List ℕ) (class : ℕ) → class < length free → class < class_count
    → samples_below (with_one free class) class_count
    ≡ samples_below free class_count + class_size class
capacity_more free class inside below =
    let set_more =
    rw add-mul at (capacity_set free class (get_or free class 0 + 1) class_count inside below) in
    omega (arith, set_more)

-- the same, with one block fewer
one_fewer : (free : List ℕ) (class : ℕ)
    → HasFree free class
    → free_count (without_one free class) + 1 ≡ free_count free
one_fewer free class some =
    omega (
      arith,
      sum_by-set (λ n. n) free class (get_or free class 0 - 1) 0 (free_within free class some),
    )

capacity_fewer : (free : List ℕ) (class : ℕ) → HasFree free class → class < class_count
    → samples_below (without_one free class) class_count + class_size class
    ≡ samples_below free class_count
capacity_fewer free class some below =
    let count : get_or free class 0 ≡ get_or free class 0 - 1 + 1 = omega arith in
    let product =
    ap (λ n. n * class_size class) count ∙ add-mul (get_or free class 0 - 1) 1 (class_size class) in
    omega (
      arith,
      product,
      capacity_set free class (get_or free class 0 - 1) class_count
          (free_within free class some) below,
    )

-- a class that lost blocks isn't below the class of the block that is dropped next
not_below : (old mid new : List ℕ) (drops : DropsLargest mid new)
    → LosesLargestFirst old mid
    → (class : ℕ)
    → LosesBlocks old new class
    → drops.class ≤ class
not_below old mid new drops first class loses =
    elim (cases_lt class drops.class) [
      | inl below ↦
          let same : get_or new class 0 ≡ get_or mid class 0 =
          rw drops.dropped
          (get_or-set_other mid drops.class class _ 0 (λ e. absurd (omega arith))) in
          absurd (omega (arith, drops.free, first class drops.class (omega arith) below))
      | inr above ↦ above
    ]

-- one more block is dropped, of the greatest class
pub largest_first : (old mid new : List ℕ)
    → DropsLargest mid new
    → LosesLargestFirst old mid
    → LosesLargestFirst old new
largest_first old mid new drops first class other loses above =
    let least = not_below old mid new drops first class loses in
    let same : get_or new other 0 ≡ get_or mid other 0 =
    rw drops.dropped (get_or-set_other mid drops.class other _ 0 (λ e. absurd (omega arith))) in
    grind (arith, drops.greatest other)

-- A block of a class that lost blocks is no smaller than the dropped one. So with one block more of
-- the class, the limits would be exceeded as they were before the drop.
pub no_more : (old mid new : List ℕ)
    → length mid ≡ class_count
    → length mid ≡ length old
    → DropsLargest mid new
    → LosesLargestFirst old mid
    → (IsTrim mid → ⊥)
    → LosesNoMore old new
no_more old mid new all long drops first exceeds class loses trim =
    let least = not_below old mid new drops first class loses in
    let inside : class < length old = free_within old class (omega arith) in
    let dropped_inside = free_within mid drops.class drops.free in
    let long_new : length new ≡ length mid = rw drops.dropped (length-set mid drops.class _) in
    let more = one_more new class (omega arith) in
    let room = capacity_more new class (omega arith) (omega arith) in
    let fewer : free_count new + 1 ≡ free_count mid =
    rw drops.dropped (one_fewer mid drops.class drops.free) in
    let freed :
    samples_below new class_count + class_size drops.class ≡ samples_below mid class_count =
    rw drops.dropped (capacity_fewer mid drops.class drops.free (omega arith)) in
    exceeds
    (record
    { blocks = omega arith; samples = omega (arith, capacity_mono drops.class class least) })
