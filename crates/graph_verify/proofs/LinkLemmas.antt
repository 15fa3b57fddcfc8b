-- How nodes are linked by cells, where no cell has two writers.
use Rattle.std.proofs.Common.{◌≡◌, ℕ, ◌+◌, ◌≤◌, Bool, true, false, cond, List, [], ◌∷◌, ◌++◌, refl, sym, ◌∙◌, ap, subst, arith, ◌==◌, Option, ◌||◌, count_by, sum_by, nat_lt}
use Rattle.graph_verify.proofs.Common.{list_any, flat_map, IsPermutation, cases_Bool, or_parts, and_parts, flat_map-append, list_any-append, sum_by-IsPermutation, Node, Reference, same_reference, inputs, outputs, In, reads, writes, feeds, is_written, OneWriter, two_writers, writes_twice, sum_by-append, sum_by-cons, fun_ext}
use Rattle.graph_verify.specs.Links.{has_twice}
use Rattle.vx_base.specs.Reference.{same_slot}
use Rattle.graph_verify.proofs.MemberLemmas.{In-from_any, any-from_In, In-flat_map}
use Rattle.graph_verify.proofs.OrderLemmas.{is_fed}

-- ---- cells

pub same_cell-true : (a b : Reference) → same_reference a b ≡ true → a ≡ b
same_cell-true a b h = grind (arith, and_parts (a.name == b.name) (same_slot a.slot b.slot) h)

same_slot-refl : (a : Option ℕ) → same_slot a a ≡ true
same_slot-refl a = grind arith

pub same_cell-refl : (a : Reference) → same_reference a a ≡ true
same_cell-refl a = grind (arith, same_slot-refl a.slot)

pub same_cell-is : (a b : Reference) → a ≡ b → same_reference a b ≡ true
same_cell-is a b e = ap (same_reference a) (sym e) ∙ same_cell-refl a

-- a cell among others
pub In-from_same : (c : Reference) (cs : List Reference)
    → list_any (same_reference c) cs ≡ true
    → In c cs
In-from_same c cs h =
    let r = In-from_any (same_reference c) cs h in
    subst (λ d. In d cs) (sym (same_cell-true c r.0 r.2)) r.1

pub same-from_In : (c : Reference) (cs : List Reference)
    → In c cs
    → list_any (same_reference c) cs ≡ true
same-from_In c cs h = any-from_In (same_reference c) c cs h (same_cell-refl c)

-- ---- links

-- a node that writes what another reads feeds it
pub feeds_is : (m n : Node) (c : Reference)
    → writes m c ≡ true
    → reads n c ≡ true
    → feeds m n ≡ true
feeds_is m n c w r = any-from_In (reads n) c (outputs m) (In-from_same c (outputs m) w) r

pub same_tests : (a b : Bool) → (a ≡ true → b ≡ true) → (b ≡ true → a ≡ true) → a ≡ b
same_tests a b to from = grind (arith, cases_Bool a, cases_Bool b)

-- a node is fed by those that write what it reads
pub is_fed-written : (g : List Node) (n : Node)
    → is_fed feeds g n ≡ list_any (is_written g) (inputs n)
is_fed-written g n = sym (same_tests (list_any (is_written g) (inputs n)) (is_fed feeds g n)
    (λ some.
    let input = In-from_any (is_written g) (inputs n) some in
    let writer = In-from_any (λ m. writes m input.0) g input.2 in
    any-from_In (λ m. feeds m n) writer.0 g writer.1
    (feeds_is writer.0 n input.0 writer.2 (same-from_In input.0 (inputs n) input.1)))
    (λ fed.
    let feeder = In-from_any (λ m. feeds m n) g fed in
    let cell = In-from_any (reads n) (outputs feeder.0) feeder.2 in
    let written =
    any-from_In (λ m. writes m cell.0) feeder.0 g feeder.1
    (same-from_In cell.0 (outputs feeder.0) cell.1) in
    any-from_In (is_written g) cell.0 (inputs n) (In-from_same cell.0 (inputs n) cell.2) written))

-- ---- lists without a repeated reference

has_twice-append : (xs ys : List Reference)
    → has_twice (xs ++ ys)
    ≡ ((has_twice xs || list_any (λ c. list_any (same_reference c) ys) xs) || has_twice ys)
has_twice-append [] ys = refl
has_twice-append (x ∷ xs) ys =
    grind (arith, has_twice-append xs ys, list_any-append (same_reference x) xs ys)

pub once_across : (c : Reference) (xs ys : List Reference)
    → has_twice (xs ++ ys) ≡ false
    → In c xs
    → In c ys
    → ⊥
once_across c xs ys h i j =
    grind (
      arith,
      has_twice-append xs ys,
      any-from_In (λ d. list_any (same_reference d) ys) c xs i (same-from_In c ys j),
    )

pub once_after : (xs ys : List Reference) → has_twice (xs ++ ys) ≡ false → has_twice ys ≡ false
once_after xs ys h = grind (arith, has_twice-append xs ys)

pub In-outputs : (n : Node) (c : Reference) (g : List Node)
    → In n g
    → writes n c ≡ true
    → In c (flat_map outputs g)
In-outputs n c g i w = In-flat_map outputs n c g i (In-from_same c (outputs n) w)

-- ---- the order of the nodes has no effect on whether a cell has two writers

count_by-cons : {X : Type 0} (p : X → Bool) (x : X) (xs : List X)
    → count_by p (x ∷ xs) ≡ cond (p x) 1 0 + count_by p xs
count_by-cons p x xs = sum_by-cons (λ y. cond (p y) 1 0) x xs

any_counted : {X : Type 0} (p : X → Bool) (xs : List X) → list_any p xs ≡ nat_lt 0 (count_by p xs)
any_counted p [] = refl
any_counted p (x ∷ xs) = grind (arith, any_counted p xs, count_by-cons p x xs)

counted_once : (xs : List Reference) (c : Reference)
    → has_twice xs ≡ false
    → count_by (same_reference c) xs ≤ 1
counted_once [] c h = omega arith
counted_once (x ∷ xs) c h =
    grind (
      arith,
      same_cell-true c x,
      any_counted (same_reference x) xs,
      counted_once xs c,
      count_by-cons (same_reference c) x xs,
      cases_Bool (same_reference c x),
    )

once_since_count : (xs : List Reference)
    → ((c : Reference) → count_by (same_reference c) xs ≤ 1)
    → has_twice xs ≡ false
once_since_count [] h = refl
once_since_count (x ∷ xs) h =
    let fewer : (c : Reference) → count_by (same_reference c) xs ≤ 1 =
    λ c. omega (arith, h c, count_by-cons (same_reference c) x xs) in
    grind (
      arith,
      h x,
      same_cell-refl x,
      any_counted (same_reference x) xs,
      count_by-cons (same_reference x) x xs,
      once_since_count xs fewer,
    )

counted-flat_map : (p : Reference → Bool) (g : List Node)
    → count_by p (flat_map outputs g) ≡ sum_by (λ n. count_by p (outputs n)) g
counted-flat_map p [] = refl
counted-flat_map p (n ∷ ns) =
    grind (
      arith,
      counted-flat_map p ns,
      sum_by-append (λ c. cond (p c) 1 0) (outputs n) (flat_map outputs ns),
      sum_by-cons (λ m. count_by p (outputs m)) n ns,
    )

pub two_writers-permutation : (g steps : List Node)
    → IsPermutation g steps
    → two_writers g ≡ false
    → two_writers steps ≡ false
two_writers-permutation g steps same h = once_since_count (flat_map outputs steps) (λ c.
    omega (
      arith,
      counted_once (flat_map outputs g) c h,
      counted-flat_map (same_reference c) g,
      counted-flat_map (same_reference c) steps,
      sum_by-IsPermutation (λ n. count_by (same_reference c) (outputs n)) g steps same,
    ))

-- ---- the test of the writers, node by node

is_written-outputs : (ns : List Node) (c : Reference)
    → list_any (same_reference c) (flat_map outputs ns) ≡ is_written ns c
is_written-outputs [] c = refl
is_written-outputs (n ∷ ns) c =
    list_any-append (same_reference c) (outputs n) (flat_map outputs ns)
    ∙ ap (λ b. writes n c || b) (is_written-outputs ns c)

pub any_agree : {X : Type 0} (p q : X → Bool) (xs : List X)
    → ((x : X) → p x ≡ q x)
    → list_any p xs ≡ list_any q xs
any_agree p q xs same = ap (λ r. list_any r xs) (fun_ext same)

pub two_writers-cons : (n : Node) (ns : List Node)
    → two_writers (n ∷ ns)
    ≡ ((writes_twice n || list_any (is_written ns) (outputs n)) || two_writers ns)
two_writers-cons n ns = grind (arith, has_twice-append, any_agree, is_written-outputs)

-- the last of the nodes
pub two_writers-after : (ms ns : List Node)
    → two_writers (ms ++ ns) ≡ false
    → two_writers ns ≡ false
two_writers-after ms ns h =
    once_after (flat_map outputs ms) (flat_map outputs ns)
    (ap has_twice (sym (flat_map-append outputs ms ns)) ∙ h)

-- what one node writes none of the others writes
pub written_once : (n : Node) (ns : List Node)
    → two_writers (n ∷ ns) ≡ false
    → (c : Reference)
    → writes n c ≡ true
    → is_written ns c ≡ false
written_once n ns h c w =
    grind (
      arith,
      or_parts (writes_twice n || list_any (is_written ns) (outputs n)) (two_writers ns)
          (sym (two_writers-cons n ns) ∙ h),
      two_writers-cons n ns,
      In-from_same c (outputs n) w,
    )

-- the test of the writers says that each cell has one
pub one_writer : (g : List Node) → two_writers g ≡ false → OneWriter writes g
one_writer [] h = λ m n c i j v w. absurd i
one_writer (x ∷ xs) h = λ m n c i j v w.
    let others = one_writer xs (once_after (outputs x) (flat_map outputs xs) h) m n c in
    grind (
      arith,
      others,
      written_once x xs h c,
      any-from_In (λ k. writes k c) m xs,
      any-from_In (λ k. writes k c) n xs,
    )
