-- Stacks of free blocks: what is unchanged when a block is added or removed.
use Rattle.std.proofs.Common.{◌≡◌, ◌≢◌, ℕ, zero, suc, ◌+◌, ◌-◌, ◌<◌, ◌≤◌, ◌⊎◌, List, length, get_or, set, replicate, length-set, [], ◌∷◌, Some, ◌*◌, None, IsSomeAnd, vec_capacity, refl, sym, ap, ◌∙◌, inl, inr, arith}
use Rattle.std.proofs.lemmas.Bool.{cases_eq}
use Rattle.std.proofs.lemmas.List.{length-map, length-replicate, get_or-set_same, get_or-set_other}
use Rattle.std.proofs.lemmas.List.Sums.{sum_by-set, get_or-le-sum_by}
use Rattle.std.proofs.lemmas.List.Folds.{sum_by-replicate}
use Rattle.slab.specs.Slab.{Slab, get, slab_len, Updates}
use Rattle.pixel_pool.specs.Classes.{class_size, class_count, IsClassOf}
use Rattle.pixel_pool.proofs.FreeLemmas.{length_at, lengths_set, free_within, no_capacity, capacity_set}
use Rattle.pixel_pool.specs.Free.{free_count, samples_below, HasFree, without_one, GetsFree}
use Rattle.pixel_pool.specs.Shelf.{ShelfValue, block_count, lengths, no_stack, stack_at, IsTopOf, IsStack, IsStacked, AreStacks}
use Rattle.pixel_pool.specs.declared.shelf.Free.{Free}
use Rattle.pixel_pool.specs.declared.stacks.Stack.{Stack}

-- how many blocks there are after a stack is changed
pub counted_set : (stacks : List Stack) (class : ℕ) (stack : Stack) → class < length stacks
    → free_count (lengths (set stacks class stack)) + (stack_at stacks class).len
    ≡ free_count (lengths stacks) + stack.len
counted_set stacks class stack inside =
    rw (
      lengths_set stacks class stack,
      ← length_at stacks class,
    ) (sum_by-set (λ n. n) (lengths stacks) class stack.len 0 (simp length-map inside))

-- the capacity of free blocks after a stack is changed
pub capacity_changed : (stacks : List Stack) (class : ℕ) (stack : Stack)
    → class < length stacks
    → length stacks ≡ class_count
    → samples_below (lengths (set stacks class stack)) class_count + (stack_at stacks class).len
    * class_size class
    ≡ samples_below (lengths stacks) class_count + stack.len * class_size class
capacity_changed stacks class stack inside all =
    rw (
      lengths_set stacks class stack,
      ← length_at stacks class,
    ) (capacity_set (lengths stacks) class stack.len class_count (simp length-map inside)
    (omega (arith, inside, all)))

-- a stack has no more blocks than are free
pub stack_counted : (stacks : List Stack) (class : ℕ)
    → class < length stacks
    → (stack_at stacks class).len ≤ free_count (lengths stacks)
stack_counted stacks class inside =
    rw (← length_at stacks class)
    (get_or-le-sum_by (λ n. n) (lengths stacks) class 0 (simp length-map inside))

-- an empty stack of each class
pub empty_at : (n class : ℕ) → get_or (replicate n no_stack) class no_stack ≡ no_stack
empty_at zero class = refl
empty_at (suc n) zero = refl
empty_at (suc n) (suc class) = empty_at n class

pub empty_lengths : (n : ℕ) → lengths (replicate n no_stack) ≡ replicate n 0
empty_lengths zero = refl
empty_lengths (suc n) = ap (λ l. 0 ∷ l) (empty_lengths n)

pub empty_count : (n : ℕ) → free_count (replicate n 0) ≡ 0
empty_count n = omega (arith, sum_by-replicate (λ m. m) n 0)

pub empty_capacity : samples_below (lengths (replicate 193 no_stack)) class_count ≡ 0
empty_capacity =
    no_capacity (lengths (replicate 193 no_stack))
    (ap free_count (empty_lengths 193) ∙ empty_count 193) class_count

module _ {T : Type 0} where
  -- a stack that has a block has a top block
  pub top_of : (free : Slab (Free T)) (class : ℕ) (stack : Stack) (block : Free T)
      → IsStack free class stack
      → 0 < stack.len
      → get free stack.top ≡ Some block → IsTopOf class stack.len block
  top_of free class stack block is some found = rw found at (is some)

  -- the top block of a class with a free block
  pub top_free :
      (stacks : List Stack) (free : Slab (Free T)) (lent class : ℕ) (was : ShelfValue)
      (block : Free T)
      → ◌≡◌ {A = ShelfValue} (record { lent = lent; free = lengths stacks }) was
      → AreStacks stacks free
      → HasFree was.free class
      → get free (stack_at stacks class).top ≡ Some block
      → (class < length stacks)
      × (0 < (stack_at stacks class).len)
      × IsTopOf class (stack_at stacks class).len block
      × (class_size class ≤ vec_capacity block.samples) × (block.capacity ≡ class_size class)
  top_free stacks free lent class was block is are some found =
      let has : HasFree (lengths stacks) class = rw (← is) at some in
      let some_there : 0 < (stack_at stacks class).len = rw (← length_at stacks class) has in
      let top : IsTopOf class (stack_at stacks class).len block =
      top_of free class (stack_at stacks class) block (are.tops class) some_there found in (
        simp length-map at (free_within (lengths stacks) class has),
        some_there,
        top,
        rw top.0 at (are.each _ block found).capacity,
        rw top.0 at (are.each _ block found).capacity_known,
      )

  -- a stack whose top block isn't one key's hasn't this key
  pub not_top : (free : Slab (Free T)) (class key : ℕ) (stack : Stack) (block : Free T)
      → IsStack free class stack
      → 0 < stack.len
      → get free key ≡ Some block → (IsTopOf class stack.len block → ⊥) → stack.top ≢ key
  not_top free class key stack block is some found other same =
      other (top_of free class stack block is some (rw same found))

  -- a stack is one where another key changes
  pub stack_kept : (old new : Slab (Free T)) (class : ℕ) (stack : Stack) → IsStack old class stack
      → (0 < stack.len → get new stack.top ≡ get old stack.top) → IsStack new class stack
  stack_kept old new class stack is same some = rw (same some) (is some)

  -- a value found after one key was removed was there before
  pub kept_value : (old new : Slab (Free T)) (gone key : ℕ) (block : Free T)
      → Updates old new gone None
      → get new key ≡ Some block
      → get old key ≡ Some block
  kept_value old new gone key block u h =
      elim (cases_eq key gone) [
        | inl same ↦ let e : get new key ≡ None = rw same u.changed in cc
        | inr other ↦ let e = u.others key other in cc
      ]

  -- a key with a value isn't the one that was removed
  pub not_gone : (old new : Slab (Free T)) (gone key : ℕ) (block : Free T)
      → Updates old new gone None
      → get new key ≡ Some block
      → key ≢ gone
  not_gone old new gone key block u h same = let e : get new key ≡ None = rw same u.changed in cc

  popped_tops : (stacks : List Stack) (old new : Slab (Free T)) (class : ℕ) (block : Free T)
      → AreStacks stacks old
      → class < length stacks
      → 0 < (stack_at stacks class).len
      → get old (stack_at stacks class).top ≡ Some block
      → Updates old new (stack_at stacks class).top None
      → (c : ℕ) → IsStack new c (stack_at (set stacks class block.under) c)
  popped_tops stacks old new class block are inside some found gone c =
      let key = (stack_at stacks class).top in
      let top : IsTopOf class (stack_at stacks class).len block =
      top_of old class (stack_at stacks class) block (are.tops class) some found in
      let is = are.each key block found in
      elim (cases_eq c class) [
        | inl same ↦
            let e : stack_at (set stacks class block.under) c ≡ block.under =
            rw same (get_or-set_same stacks class block.under no_stack inside) in
            let linked : IsStack old c block.under = rw (same, ← top.0) is.linked in
            rw e (stack_kept old new c block.under linked (λ p. gone.others block.under.top
            (not_top old c key block.under block linked p found
            (λ t. absurd (omega (arith, t.1))))))
        | inr other ↦
            let e : stack_at (set stacks class block.under) c ≡ stack_at stacks c =
            get_or-set_other stacks class c block.under no_stack other in
            rw e
            (stack_kept old new c (stack_at stacks c) (are.tops c)
            (λ p. gone.others (stack_at stacks c).top
            (not_top old c key (stack_at stacks c) block (are.tops c) p found
            (λ t. other (sym t.0 ∙ top.0)))))
      ]

  popped_each :
      (stacks : List Stack) (old new : Slab (Free T)) (class : ℕ) (block : Free T) (k : ℕ)
      (b : Free T)
      → AreStacks stacks old
      → class < length stacks
      → 0 < (stack_at stacks class).len
      → get old (stack_at stacks class).top ≡ Some block
      → Updates old new (stack_at stacks class).top None
      → get new k ≡ Some b → IsStacked (set stacks class block.under) new b
  popped_each stacks old new class block k b are inside some found gone h =
      let key = (stack_at stacks class).top in
      let top : IsTopOf class (stack_at stacks class).len block =
      top_of old class (stack_at stacks class) block (are.tops class) some found in
      let was = kept_value old new key k b gone h in
      let is = are.each k b was in
      record {
        capacity = is.capacity;
        capacity_known = is.capacity_known;
        within = elim (cases_eq b.class class) [
          | inl same ↦
              let e : stack_at (set stacks class block.under) b.class ≡ block.under =
              rw same (get_or-set_same stacks class block.under no_stack inside) in
              let below : b.under.len < (stack_at stacks class).len = rw same at is.within in
              let apart : b.under.len ≢ block.under.len =
              λ level. not_gone old new key k b gone h
              (are.alone k key b block was found (same ∙ sym top.0) level) in
              rw e (omega (arith, below, apart, top.1))
          | inr other ↦
              let e : stack_at (set stacks class block.under) b.class ≡ stack_at stacks b.class =
              get_or-set_other stacks class b.class block.under no_stack other in
              rw e is.within
        ];
        linked = stack_kept old new b.class b.under is.linked (λ p. gone.others b.under.top
            (not_top old b.class key b.under block is.linked p found (λ t.
            let here : b.under.len < (stack_at stacks class).len =
            rw (sym t.0 ∙ top.0) at is.within in
            absurd (omega (arith, here, t.1, top.1)))));
      }

  -- a stack has its key also once another block has come
  still_stack : (old new : Slab (Free T)) (key : ℕ) (block : Free T) (class : ℕ) (stack : Stack)
      → get old key ≡ None
      → Updates old new key (Some block)
      → IsStack old class stack → IsStack new class stack
  still_stack old new key block class stack vacant came is =
      stack_kept old new class stack is (λ p. came.others stack.top (λ same.
      let h : IsSomeAnd (get old stack.top) (IsTopOf class stack.len) = is p in
      let e : get old stack.top ≡ None = rw same vacant in
      let none : ⊥ = rw e at h in none))

  pushed_tops : (stacks : List Stack) (old new : Slab (Free T)) (key : ℕ) (block : Free T) (c : ℕ)
      → AreStacks stacks old
      → block.class < length stacks
      → block.under ≡ stack_at stacks block.class
      → get old key ≡ None
      → Updates old new key (Some block)
      → IsStack new c
      (stack_at (set stacks block.class (record { top = key; len = block.under.len + 1 })) c)
  pushed_tops stacks old new key block c are inside under vacant came =
      let on : Stack = record { top = key; len = block.under.len + 1 } in
      elim (cases_eq c block.class) [
        | inl same ↦
            let e : stack_at (set stacks block.class on) c ≡ on =
            rw same (get_or-set_same stacks block.class on no_stack inside) in
            rw e (λ p. rw came.changed (sym same, refl))
        | inr other ↦
            let e : stack_at (set stacks block.class on) c ≡ stack_at stacks c =
            get_or-set_other stacks block.class c on no_stack other in
            rw e (still_stack old new key block c (stack_at stacks c) vacant came (are.tops c))
      ]

  -- a block that is found once one has come is that one, or was there
  came_or_was : (old new : Slab (Free T)) (key : ℕ) (block : Free T) (k : ℕ) (b : Free T)
      → Updates old new key (Some block)
      → get new k ≡ Some b
      → ((k ≡ key) × (b ≡ block)) ⊎ (get old k ≡ Some b)
  came_or_was old new key block k b came h =
      elim (cases_eq k key) [
        | inl same ↦ let e : get new k ≡ Some block = rw same came.changed in inl (same, cc)
        | inr other ↦ let e = came.others k other in inr (cc)
      ]

  pushed_each :
      (stacks : List Stack) (old new : Slab (Free T)) (key : ℕ) (block : Free T) (k : ℕ)
      (b : Free T)
      → AreStacks stacks old
      → block.class < length stacks
      → class_size block.class ≤ vec_capacity block.samples
      → block.capacity ≡ class_size block.class
      → block.under ≡ stack_at stacks block.class
      → get old key ≡ None
      → Updates old new key (Some block) → get new k ≡ Some b
      → IsStacked (set stacks block.class (record { top = key; len = block.under.len + 1 })) new b
  pushed_each stacks old new key block k b are inside capacity known under vacant came h =
      let on : Stack = record { top = key; len = block.under.len + 1 } in
      let here : stack_at (set stacks block.class on) block.class ≡ on =
      get_or-set_same stacks block.class on no_stack inside in
      elim (came_or_was old new key block k b came h) [
        | inl new_one ↦ rw new_one.1 (record {
          capacity = capacity;
          capacity_known = known;
          within = rw here (omega arith);
          linked =
              still_stack old new key block block.class block.under vacant came
              (rw under (are.tops block.class));
        })
        | inr was ↦
            let is = are.each k b was in
            record {
              capacity = is.capacity;
              capacity_known = is.capacity_known;
              within = elim (cases_eq b.class block.class) [
                | inl same ↦
                    let below : b.under.len < (stack_at stacks block.class).len =
                    rw same at is.within in
                    rw (same, here) (omega (arith, below, ap (λ (s : Stack). s.len) under))
                | inr other ↦
                    let e : stack_at (set stacks block.class on) b.class ≡ stack_at stacks b.class =
                    get_or-set_other stacks block.class b.class on no_stack other in
                    rw e is.within
              ];
              linked = still_stack old new key block b.class b.under vacant came is.linked;
            }
      ]

  -- a block that was there is lower than one that has come to its class
  lower : (stacks : List Stack) (old : Slab (Free T)) (block : Free T) (k : ℕ) (b : Free T)
      → AreStacks stacks old
      → block.under ≡ stack_at stacks block.class
      → get old k ≡ Some b → b.class ≡ block.class → b.under.len < block.under.len
  lower stacks old block k b are under was same =
      let below : b.under.len < (stack_at stacks block.class).len =
      rw same at (are.each k b was).within in
      rw under below

  pushed_alone :
      (stacks : List Stack) (old new : Slab (Free T)) (key : ℕ) (block : Free T) (k j : ℕ)
      (b d : Free T)
      → AreStacks stacks old
      → block.under ≡ stack_at stacks block.class
      → Updates old new key (Some block)
      → get new k ≡ Some b
      → get new j ≡ Some d
      → b.class ≡ d.class → b.under.len ≡ d.under.len → k ≡ j
  pushed_alone stacks old new key block k j b d are under came hk hj same level =
      elim (came_or_was old new key block k b came hk) [
        | inl p ↦ elim (came_or_was old new key block j d came hj) [
          | inl q ↦ p.0 ∙ sym q.0
          | inr q ↦ let l =
              lower stacks old block j d are under q
              (sym same ∙ ap (λ (x : Free T). x.class) p.1) in
              absurd (omega (arith, l, level, ap (λ (x : Free T). x.under.len) p.1))
        ]
        | inr p ↦ elim (came_or_was old new key block j d came hj) [
          | inl q ↦ let l =
              lower stacks old block k b are under p (same ∙ ap (λ (x : Free T). x.class) q.1) in
              absurd (omega (arith, l, level, ap (λ (x : Free T). x.under.len) q.1))
          | inr q ↦ are.alone k j b d p q same level
        ]
      ]

  -- the stacks once the top block of a class is gone
  pub popped : (stacks : List Stack) (old new : Slab (Free T)) (class : ℕ) (block : Free T)
      → AreStacks stacks old
      → class < length stacks
      → 0 < (stack_at stacks class).len
      → get old (stack_at stacks class).top ≡ Some block
      → Updates old new (stack_at stacks class).top None
      → slab_len new + 1 ≡ slab_len old → AreStacks (set stacks class block.under) new
  popped stacks old new class block are inside some found gone fewer =
      let key = (stack_at stacks class).top in
      let top : IsTopOf class (stack_at stacks class).len block =
      top_of old class (stack_at stacks class) block (are.tops class) some found in
      let is = are.each key block found in
      record {
        all = length-set stacks class block.under ∙ are.all;
        tops = popped_tops stacks old new class block are inside some found gone;
        each = λ k b h. popped_each stacks old new class block k b are inside some found gone h;
        alone =
            λ k j b d hk hj. are.alone k j b d (kept_value old new key k b gone hk)
            (kept_value old new key j d gone hj);
        counted = omega (arith, counted_set stacks class block.under inside, are.counted, top.1);
      }

  -- the stacks once a block has come
  pub pushed : (stacks : List Stack) (old new : Slab (Free T)) (key : ℕ) (block : Free T)
      → AreStacks stacks old
      → block.class < length stacks
      → class_size block.class ≤ vec_capacity block.samples
      → block.capacity ≡ class_size block.class
      → block.under ≡ stack_at stacks block.class
      → get old key ≡ None
      → Updates old new key (Some block) → slab_len new ≡ slab_len old + 1
      → AreStacks (set stacks block.class (record { top = key; len = block.under.len + 1 })) new
  pushed stacks old new key block are inside capacity known under vacant came more =
      record {
        all =
            length-set stacks block.class (record { top = key; len = block.under.len + 1 })
            ∙ are.all;
        tops = λ c. pushed_tops stacks old new key block c are inside under vacant came;
        each =
            λ k b h. pushed_each stacks old new key block k b are inside capacity known under
            vacant came h;
        alone =
            λ k j b d hk hj same level. pushed_alone stacks old new key block k j b d are under
            came hk hj same level;
        counted =
            omega (
              arith,
              counted_set stacks block.class
                  (record { top = key; len = block.under.len + 1 }) inside,
              are.counted,
              ap
                  (λ (s : Stack). s.len) under,
            );
      }

  -- a slab with more capacity has as many values
  pub len_with_capacity : (old new : Slab (Free T))
      → new ≡ record old { capacity = new.capacity }
      → slab_len new ≡ slab_len old
  len_with_capacity old new same = rw same refl

  -- stacks are unchanged when the capacity of their slab grows
  pub with_capacity : (stacks : List Stack) (old new : Slab (Free T))
      → AreStacks stacks old
      → new ≡ record old { capacity = new.capacity }
      → AreStacks stacks new
  with_capacity stacks old new are same =
      rw same (record {
        all = are.all;
        tops = are.tops;
        each = λ key block is.
            let x = are.each key block is in
            record {
              capacity = x.capacity;
              capacity_known = x.capacity_known;
              within = x.within;
              linked = x.linked;
            };
        alone = are.alone;
        counted = are.counted;
      })

  -- a slab without slots has no values
  pub no_values : (free : Slab (Free T)) → free.slots ≡ [] → slab_len free ≡ 0
  no_values free none = rw none refl

  -- stacks without blocks
  pub empty_stacks : (free : Slab (Free T))
      → free.slots ≡ []
      → AreStacks (replicate 193 no_stack) free
  empty_stacks free none =
      let nothing : (key : ℕ) → get free key ≡ None = λ key. rw none refl in
      record {
        all = length-replicate 193 no_stack;
        tops =
            λ class some. let e : stack_at (replicate 193 no_stack) class ≡ no_stack =
            empty_at 193 class in let p : 0 < 0 = rw e at some in absurd (omega (arith, p));
        each = λ key block h. let e = nothing key in cc;
        alone = λ key other block elsewhere h. let e = nothing key in cc;
        counted = ap free_count (empty_lengths 193) ∙ empty_count 193 ∙ sym (no_values free none);
      }

  -- the view of a shelf after the top block of a class is lent
  pub lent_value :
      (stacks : List Stack) (free : Slab (Free T)) (class lent : ℕ) (block : Free T)
      (was : ShelfValue)
      → ◌≡◌ {A = ShelfValue} (record { lent = lent; free = lengths stacks }) was
      → IsTopOf class (stack_at stacks class).len block
      → ◌≡◌ {A = ShelfValue}
      (record { lent = lent + 1; free = lengths (set stacks class block.under) })
      (record { lent = was.lent + 1; free = without_one was.free class })
  lent_value stacks free class lent block was is top =
      let e : block.under.len ≡ get_or (lengths stacks) class 0 - 1 =
      omega (arith, top.1, length_at stacks class) in
      rw (← is, lengths_set, e) refl

  pub lent_count :
      (stacks : List Stack) (free : Slab (Free T)) (class lent : ℕ) (block : Free T)
      (was : ShelfValue)
      → ◌≡◌ {A = ShelfValue} (record { lent = lent; free = lengths stacks }) was
      → IsTopOf class (stack_at stacks class).len block
      → class < length stacks
      → free_count (lengths (set stacks class block.under)) + 1 ≡ free_count was.free
  lent_count stacks free class lent block was is top inside =
      rw (← is) (omega (arith, counted_set stacks class block.under inside, top.1))

-- the view of a shelf after a block is added to a class
pub back_value : (stacks : List Stack) (class lent capacity key : ℕ) (was : ShelfValue)
    → ◌≡◌ {A = ShelfValue} (record { lent = lent; free = lengths stacks }) was
    → IsClassOf capacity class → class < length stacks
    → GetsFree capacity was.free
    (lengths (set stacks class (record { top = key; len = (stack_at stacks class).len + 1 })))
back_value stacks class lent capacity key was is in_class inside =
    let on : Stack = record { top = key; len = (stack_at stacks class).len + 1 } in
    rw (← is) (record {
      class = class;
      is_class = in_class;
      added = rw (lengths_set, length_at) refl;
      free =
          rw (
            length_at (set stacks class on) class,
            get_or-set_same stacks class on no_stack inside,
          ) (omega arith);
    })

pub back_count : (stacks : List Stack) (class lent key : ℕ) (was : ShelfValue)
    → ◌≡◌ {A = ShelfValue} (record { lent = lent; free = lengths stacks }) was
    → 1 ≤ lent
    → class < length stacks
    → (lent - 1) + free_count
    (lengths (set stacks class (record { top = key; len = (stack_at stacks class).len + 1 })))
    ≡ block_count was
back_count stacks class lent key was is some inside =
    rw (← is)
    (omega (
      arith,
      some,
      counted_set stacks class
          (record { top = key; len = (stack_at stacks class).len + 1 }) inside,
    ))

pub lent_some : (stacks : List Stack) (lent : ℕ) (was : ShelfValue)
    → ◌≡◌ {A = ShelfValue} (record { lent = lent; free = lengths stacks }) was
    → 1 ≤ was.lent
    → 1 ≤ lent
lent_some stacks lent was is some = rw (← is) at some
