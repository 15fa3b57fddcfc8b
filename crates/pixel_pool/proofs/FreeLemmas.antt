-- Lemmas on how many blocks of each class are free.
use Rattle.std.proofs.Common.{◌≡◌, ℕ, zero, suc, ◌+◌, ◌*◌, ◌^◌, ◌<◌, ◌≤◌, List, [], ◌∷◌, length, Option, Some, None, IfNone, get_or, set, refl, sym, ◌∙◌, add-one, inl, inr, arith}
use Rattle.std.proofs.lemmas.Bool.{cases_lt, cases_eq}
use Rattle.std.proofs.lemmas.List.{length-map, map-set, get_or_past, get_or-set_same, get_or-set_other}
use Rattle.std.proofs.Math.Nat.{mul-le-mul}
use Rattle.std.proofs.Math.ListN.{get_or-map}
use Rattle.std.proofs.lemmas.List.Sums.{sum_by-cons, get_or-le-sum_by}
use Rattle.pixel_pool.specs.Classes.{class_size, class_count, FitsIn}
use Rattle.pixel_pool.specs.Free.{free_count, HasBlockFor, GetsFree, IsTrim, samples_below}
use Rattle.pixel_pool.proofs.ClassLemmas.{capacity_mono, capacity_small, capacity_steps}
use Rattle.pixel_pool.specs.Shelf.{lengths, no_stack, stack_at}
use Rattle.pixel_pool.specs.declared.stacks.Stack.{Stack}

-- the length of the stack of a class
pub length_at : (stacks : List Stack) (class : ℕ)
    → get_or (lengths stacks) class 0 ≡ (stack_at stacks class).len
length_at stacks class = get_or-map (λ (s : Stack). s.len) stacks class no_stack

-- the lengths after a stack is changed
pub lengths_set : (stacks : List Stack) (class : ℕ) (stack : Stack)
    → lengths (set stacks class stack) ≡ set (lengths stacks) class stack.len
lengths_set stacks class stack = map-set (λ (s : Stack). s.len) stacks class stack

-- a class with a free block exists
pub free_within : (free : List ℕ) (class : ℕ) → 0 < get_or free class 0 → class < length free
free_within [] class some = absurd (omega arith)
free_within (n ∷ free) zero some = omega arith
free_within (n ∷ free) (suc class) some = omega (arith, free_within free class some)

-- no block is free if none of any class is
pub none_free : (free : List ℕ)
    → ((class : ℕ) → class < length free → get_or free class 0 ≡ 0)
    → free_count free ≡ 0
none_free [] none = refl
none_free (n ∷ free) none =
    omega (
      arith,
      sum_by-cons (λ m. m) n free,
      none 0 (omega arith),
      none_free free (λ class inside. none (suc class) (omega arith)),
    )

pub below_zero : (free : List ℕ) → samples_below free 0 ≡ 0
unfolding samples_below
below_zero free = refl

pub below_more : (free : List ℕ) (class : ℕ)
    → samples_below free (class + 1)
    ≡ samples_below free class + get_or free class 0 * class_size class
unfolding samples_below
below_more free class = rw add-one refl

-- the lengths of stacks, for loops over their classes
pub ruleset stack_steps = (none_free, free_within, length_at, capacity_steps)

-- of a class no more blocks are free than of all
pub class_within : (free : List ℕ) (class : ℕ) → get_or free class 0 ≤ free_count free
class_within free class =
    elim (cases_lt class (length free)) [
      | inl inside ↦ get_or-le-sum_by (λ n. n) free class 0 inside
      | inr past ↦ omega (arith, get_or_past free class 0 past)
    ]

no_len : (free : List ℕ) → free_count free ≡ 0 → (class : ℕ) → get_or free class 0 ≡ 0
no_len free none class =
    omega (arith, class_within free class, none)

pub no_capacity : (free : List ℕ) → free_count free ≡ 0 → (class : ℕ) → samples_below free class ≡ 0
no_capacity free none zero = below_zero free
no_capacity free none (suc class) =
    rw (← add-one)
    (below_more free class ∙ rw (no_capacity free none class, no_len free none class) (omega arith))

-- without free blocks the limits are kept
pub none_is_trim : (free : List ℕ) → free_count free ≡ 0 → IsTrim free
none_is_trim free none = record {
  blocks = omega (arith, none);
  samples = omega (arith, no_capacity free none class_count);
}

-- the total capacity of the free blocks can't overflow
pub capacity_bound : (free : List ℕ) (class : ℕ)
    → class ≤ class_count
    → samples_below free class ≤ class * (free_count free * 2 ^ 31)
capacity_bound free zero within = omega (arith, below_zero free)
capacity_bound free (suc class) within =
    let each : get_or free class 0 * class_size class ≤ free_count free * 2 ^ 31 =
    mul-le-mul (class_within free class) (omega (arith, capacity_small class (omega arith))) in
    let more :
    samples_below free (suc class)
    ≡ samples_below free class + get_or free class 0 * class_size class =
    rw (← add-one) (below_more free class) in
    omega (arith, more, each, capacity_bound free class (omega arith))

capacity_elsewhere : (free : List ℕ) (class n top : ℕ)
    → top ≤ class
    → samples_below (set free class n) top ≡ samples_below free top
capacity_elsewhere free class n zero within = below_zero (set free class n) ∙ sym (below_zero free)
capacity_elsewhere free class n (suc top) within =
    let e : get_or (set free class n) top 0 ≡ get_or free top 0 =
    get_or-set_other free class top n 0 (λ e. absurd (omega (arith, e))) in
    let more :
    samples_below (set free class n) (top + 1)
    ≡ samples_below (set free class n) top + get_or free top 0 * class_size top =
    rw e at (below_more (set free class n) top) in
    rw (← add-one)
    (omega (arith, more, below_more free top, capacity_elsewhere free class n top (omega arith)))

-- the total capacity of the free blocks after their number in one class changes
pub capacity_set : (free : List ℕ) (class n top : ℕ) → class < length free → class < top
    → samples_below (set free class n) top + get_or free class 0 * class_size class
    ≡ samples_below free top + n * class_size class
capacity_set free class n zero inside below = absurd (omega arith)
capacity_set free class n (suc top) inside below =
    elim (cases_eq top class) [
      | inl same ↦
          let e : get_or (set free class n) class 0 ≡ n = get_or-set_same free class n 0 inside in
          let more :
          samples_below (set free class n) (class + 1)
          ≡ samples_below (set free class n) class + n * class_size class =
          rw e at (below_more (set free class n) class) in
          rw (← add-one, same)
          (omega
          (arith, more, below_more free class, capacity_elsewhere free class n class (omega arith)))
      | inr other ↦
          let e : get_or (set free class n) top 0 ≡ get_or free top 0 =
          get_or-set_other free class top n 0 other in
          let more :
          samples_below (set free class n) (top + 1)
          ≡ samples_below (set free class n) top + get_or free top 0 * class_size top =
          rw e at (below_more (set free class n) top) in
          rw (← add-one)
          (omega
          (arith, more, below_more free top, capacity_set free class n top inside (omega arith)))
    ]

-- where no class has a free block, none is free
pub none_left : (found : Option ℕ) (stacks : List Stack) (class : ℕ)
    → 193 ≤ class
    → length stacks ≡ 193
    → IfNone found ((other : ℕ) → other < class → get_or (lengths stacks) other 0 ≡ 0)
    → IfNone found (free_count (lengths stacks) ≡ 0)
none_left None stacks class all long none =
    none_free (lengths stacks)
    (λ k inside. none k (omega (arith, length-map stacks (λ (s : Stack). s.len), inside)))
none_left (Some k) stacks class all long none = tt

-- a block that was given back fits as many samples again
pub fits_again : (count capacity : ℕ) (old new : List ℕ)
    → count ≤ class_size 192
    → FitsIn count capacity
    → GetsFree capacity old new
    → HasBlockFor new count
fits_again count capacity old new small fits gets =
    let x = fits small in (
      gets.class,
      gets.free,
      omega (arith, x.2, capacity_mono x.0 gets.class (gets.is_class.greatest x.0 x.1 x.3)),
    )
