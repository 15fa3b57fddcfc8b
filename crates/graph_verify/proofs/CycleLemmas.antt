-- Cycles, and the test that finds them.
use Rattle.std.proofs.Common.{◌≡◌, ℕ, ◌≤◌, ◌⊎◌, suc, zero, Bool, true, false, List, [], ◌∷◌, ◌++◌, length, refl, sym, ◌∙◌, ap, subst, inl, inr, arith, rules, ◌↔◌}
use Rattle.graph_verify.proofs.Common.{filter, list_any, cases_Bool, not-true, In, AllIn, HasCycle, fed_nodes, left_after, is_empty, has_cycle, InTurn}
use Rattle.std.proofs.lemmas.Bool.{cases_lt}
use Rattle.std.proofs.lemmas.List.Sums.{length-filter, count_by-le-length}
use Rattle.graph_verify.specs.Cycle.{Chain, IsCycle}
use Rattle.graph_verify.proofs.MemberLemmas.{In-append, In-from_any, any-from_In, In-filter, In-from_filter}

-- chains

pub Chain-append : {N : Type 0} (feeds : N → N → Bool) (a b c : N) (xs ys : List N)
    → Chain feeds a xs b
    → Chain feeds b ys c
    → Chain feeds a (xs ++ (b ∷ ys)) c
Chain-append feeds a b c [] ys h k = (h, k)
Chain-append feeds a b c (x ∷ xs) ys h k = (h.0, Chain-append feeds x b c xs ys h.1 k)

-- Where each member of a non-empty list comes after a member, one comes after itself.
pub one_after_itself : {N : Type 0} (P : N → N → Type 0)
    → ((a b c : N) → P a b → P b c → P a c)
    → (x : N) (xs : List N)
    → ((n : N) → In n (x ∷ xs) → (m : N) × In m (x ∷ xs) × P m n)
    → (n : N) × In n (x ∷ xs) × P n n
one_after_itself {N} P trans x [] each =
    let r = each x (inl refl) in
    elim r.1 [ inl e ↦ (x, inl refl, subst (λ k. P k x) e r.2) | inr e ↦ absurd e ]
one_after_itself {N} P trans x (y ∷ xs) each =
    let r = each x (inl refl) in
    elim r.1 [
      | inl e ↦ (x, inl refl, subst (λ k. P k x) e r.2)
      | inr j ↦ (let shorter : (n : N) → In n (y ∷ xs) → (k : N) × In k (y ∷ xs) × P k n
          = λ n h. let q = each n (inr h) in elim q.1 [
            | inl e ↦ (r.0, j, trans r.0 x n r.2 (subst (λ z. P z n) e q.2))
            | inr l ↦ (q.0, l, q.2)
          ]
          in let s = one_after_itself P trans y xs shorter in (s.0, inr s.1, s.2))
    ]

-- each member is fed by a member
abbrev pub Fed : {N : Type 0} → (N → N → Bool) → List N → Type 0
Fed {N} feeds ns = (n : N) → In n ns → (m : N) × In m ns × (feeds m n ≡ true)

-- a walk within g
abbrev pub Walk : {N : Type 0} → (N → N → Bool) → List N → N → N → Type 0
Walk {N} feeds g a b = (mid : List N) × Chain feeds a mid b × AllIn mid g × In b g

Walk-trans : {N : Type 0} (feeds : N → N → Bool) (g : List N) (a b c : N)
    → Walk feeds g a b
    → Walk feeds g b c
    → Walk feeds g a c
Walk-trans feeds g a b c p q = (
  p.0 ++ (b ∷ q.0),
  Chain-append feeds a b c p.0 q.0 p.1 q.1,
  (λ x h. elim (In-append x p.0 (b ∷ q.0) h) [
    | inl i ↦ p.2 x i
    | inr i ↦ elim i
        [ inl e ↦ subst (λ z. In z g) (sym e) p.3 | inr k ↦ q.2 x k ]
  ]),
  q.3,
)

-- Where each member of a non-empty list is fed by a member, there is a cycle.
pub cycle_from_fed : {N : Type 0} (feeds : N → N → Bool) (x : N) (xs : List N)
    → Fed feeds (x ∷ xs)
    → HasCycle feeds (x ∷ xs)
cycle_from_fed {N} feeds x xs fed =
    let g : List N = x ∷ xs in
    let r = one_after_itself (Walk feeds g) (Walk-trans feeds g) x xs
    (λ n h. let f = fed n h in (f.0, f.1, ([], f.2, (λ y k. absurd k), h))) in (
      r.0 ∷ r.2.0,
      r.2.1,
      λ y h. elim h [ inl e ↦ subst (λ z. In z g) (sym e) r.1 | inr k ↦ r.2.2 y k ],
    )

-- what feeds each node of a chain, its end included
fed_on_chain : {N : Type 0} (feeds : N → N → Bool) (a : N) (xs : List N) (b n : N)
    → Chain feeds a xs b
    → In n xs ⊎ (n ≡ b)
    → (m : N) × In m (a ∷ xs) × (feeds m n ≡ true)
fed_on_chain feeds a [] b n h i = elim i [
  | inl k ↦ absurd k
  | inr e ↦ (a, inl refl, ap (feeds a) e ∙ h)
]
fed_on_chain feeds a (x ∷ xs) b n h i = grind (arith, fed_on_chain feeds x xs b n h.1)

pub fed_from_cycle : {N : Type 0} (feeds : N → N → Bool) (ns : List N)
    → IsCycle feeds ns
    → Fed feeds ns
fed_from_cycle feeds [] h = λ n i. absurd h
fed_from_cycle feeds (a ∷ xs) h =
    λ n i. fed_on_chain feeds a xs a n h (elim i [ inl e ↦ inr e | inr k ↦ inl k ])

-- A list of nodes in turn has no list whose members feed each other.
pub none_fed_in_turn : {N : Type 0} (feeds : N → N → Bool) (steps ns : List N)
    → InTurn feeds steps
    → Fed feeds ns
    → AllIn ns steps
    → (x : N)
    → In x ns
    → ⊥
none_fed_in_turn feeds [] ns turn fed within x h = within x h
none_fed_in_turn {N} feeds (s ∷ steps) ns turn fed within x h =
    let rest : AllIn ns steps = λ n i. let f = fed n i in
    let none = turn.0 f.0 (within f.0 f.1) in grind (arith, within n i) in
    none_fed_in_turn feeds steps ns turn.1 fed rest x h

first_of_cycle : {N : Type 0} (feeds : N → N → Bool) (ns : List N)
    → IsCycle feeds ns
    → (x : N) × In x ns
first_of_cycle feeds [] h = absurd h
first_of_cycle feeds (a ∷ xs) h = (a, inl refl)

pub no_cycle_in_turn : {N : Type 0} (feeds : N → N → Bool) (g steps : List N)
    → InTurn feeds steps
    → AllIn g steps
    → HasCycle feeds g
    → ⊥
no_cycle_in_turn feeds g steps turn within c =
    none_fed_in_turn feeds steps c.0 turn (fed_from_cycle feeds c.0 c.1)
    (λ n i. within n (c.2 n i)) (first_of_cycle feeds c.0 c.1).0
    (first_of_cycle feeds c.0 c.1).1

-- the test

AllIn-waiting : {N : Type 0} (feeds : N → N → Bool) (g ns : List N)
    → Fed feeds ns
    → AllIn ns g
    → AllIn ns (fed_nodes feeds g)
AllIn-waiting feeds g ns fed within n i =
    let f = fed n i in
    In-filter (λ k. list_any (λ m. feeds m k) g) n g (within n i)
    (any-from_In (λ m. feeds m n) f.0 g (within f.0 f.1) f.2)

AllIn-left : {N : Type 0} (feeds : N → N → Bool) (k : ℕ) (g ns : List N)
    → Fed feeds ns
    → AllIn ns g
    → AllIn ns (left_after feeds k g)
AllIn-left feeds zero g ns fed within = within
AllIn-left feeds (suc k) g ns fed within =
    AllIn-left feeds k (fed_nodes feeds g) ns fed (AllIn-waiting feeds g ns fed within)

not_empty : {N : Type 0} (x : N) (xs : List N) → In x xs → is_empty xs ≡ false
not_empty x xs h = grind arith

pub has_cycle-from_cycle : {N : Type 0} (feeds : N → N → Bool) (g : List N)
    → HasCycle feeds g
    → has_cycle feeds g ≡ true
has_cycle-from_cycle feeds g c =
    grind (arith, first_of_cycle, not_empty, AllIn-left, fed_from_cycle)

-- a filter that takes nothing away takes all
all_pass : {X : Type 0} (p : X → Bool) (xs : List X)
    → length xs ≤ length (filter p xs)
    → (x : X)
    → In x xs
    → p x ≡ true
all_pass p [] h x i = absurd i
all_pass p (y ∷ ys) h x i =
    grind (arith, all_pass p ys, length-filter p ys, count_by-le-length p ys, cases_Bool (p y))

-- `left_after` of at least as many rounds as there are nodes leaves nodes that feed each other
Fed-waiting : {N : Type 0} (feeds : N → N → Bool) (g : List N)
    → Fed feeds g
    → Fed feeds (fed_nodes feeds g)
Fed-waiting feeds g fed n h = grind (arith, In-from_filter, AllIn-waiting)

Fed-left : {N : Type 0} (feeds : N → N → Bool) (k : ℕ) (g : List N)
    → Fed feeds g
    → Fed feeds (left_after feeds k g)
Fed-left feeds zero g fed = fed
Fed-left feeds (suc k) g fed = Fed-left feeds k (fed_nodes feeds g) (Fed-waiting feeds g fed)

left_within : {N : Type 0} (feeds : N → N → Bool) (k : ℕ) (g : List N)
    → AllIn (left_after feeds k g) g
left_within feeds zero g = λ x h. h
left_within feeds (suc k) g =
    λ x h.
    (In-from_filter (λ n. list_any (λ m. feeds m n) g) x g
    (left_within feeds k (fed_nodes feeds g) x h)).0

Fed-left_enough : {N : Type 0} (feeds : N → N → Bool) (k : ℕ) (g : List N)
    → length g ≤ k
    → Fed feeds (left_after feeds k g)
Fed-left_enough feeds zero [] h = λ n i. absurd i
Fed-left_enough feeds zero (x ∷ xs) h = absurd (omega arith)
Fed-left_enough feeds (suc k) g h = elim (cases_lt (length (fed_nodes feeds g)) (length g)) [
  | inl l ↦ Fed-left_enough feeds k (fed_nodes feeds g) (omega arith)
  | inr l ↦
      Fed-left feeds (suc k) g
      (λ n i. In-from_any (λ m. feeds m n) g (all_pass (λ n. list_any (λ m. feeds m n) g) g l n i))
]

HasCycle-more : {N : Type 0} (feeds : N → N → Bool) (r g : List N)
    → AllIn r g
    → HasCycle feeds r
    → HasCycle feeds g
HasCycle-more feeds r g within c = (c.0, c.1, λ x h. within x (c.2 x h))

-- what a list of nodes that feed each other has
pub cycle_or_empty : {N : Type 0} (feeds : N → N → Bool) (g r : List N)
    → AllIn r g
    → Fed feeds r
    → is_empty r ≡ false
    → HasCycle feeds g
cycle_or_empty feeds g [] within fed h = absurd (cc h)
cycle_or_empty feeds g (x ∷ xs) within fed h =
    HasCycle-more feeds (x ∷ xs) g within (cycle_from_fed feeds x xs fed)

pub cycle_from-has_cycle : {N : Type 0} (feeds : N → N → Bool) (g : List N)
    → has_cycle feeds g ≡ true
    → HasCycle feeds g
cycle_from-has_cycle feeds g h =
    search (rules, cycle_or_empty, left_within, Fed-left_enough, not-true)

-- the test is exact
pub has_cycle-iff : {N : Type 0} (feeds : N → N → Bool) (g : List N)
    → (has_cycle feeds g ≡ true) ↔ HasCycle feeds g
has_cycle-iff feeds g = (cycle_from-has_cycle feeds g, has_cycle-from_cycle feeds g)
