-- Orders of nodes: that there is one where there is no cycle, and how one is made node by node.
use Rattle.std.proofs.Common.{◌≡◌, ℕ, ◌<◌, suc, zero, Bool, true, false, List, [], ◌∷◌, ◌++◌, length, get_or, map, append-nil, length-append, refl, ◌∙◌, ap, inl, inr, arith, rules, not}
use Rattle.graph_verify.proofs.Common.{filter, list_any, remove, IsPermutation, cases_Bool, false_from_ne_true, not-true, not-false, length-map, length-filter_both, IsPermutation-remove, IsPermutation-map, length_permutation, In, AllIn, HasCycle, fed_nodes, left_after, is_empty, has_cycle, InTurn, IsOrder}
use Rattle.graph_verify.proofs.MemberLemmas.{In-left, In-right, In-append, In-from_any, fails-from_In, In-filter, In-from_filter, In-from_map, any-map, filter-map, AllIn-permutation, AllIn-permutation_back}
use Rattle.graph_verify.proofs.CycleLemmas.{cycle_or_empty, no_cycle_in_turn, cycle_from-has_cycle}

-- whether a node of the list feeds a node
abbrev pub is_fed : {N : Type 0} → (N → N → Bool) → List N → N → Bool
is_fed feeds g n = list_any (λ m. feeds m n) g

module _ {N : Type 0} (feeds : N → N → Bool) where
  pub not_fed : (g : List N) (n : N)
      → is_fed feeds g n ≡ false
      → (m : N)
      → In m g
      → feeds m n ≡ false
  not_fed g n none m h = fails-from_In (λ k. feeds k n) m g none h

  -- ---- where the test finds no cycle, there is an order

  InTurn-append : (xs ys : List N)
      → ((n m : N) → In n xs → In m (xs ++ ys) → feeds m n ≡ false)
      → InTurn feeds ys
      → InTurn feeds (xs ++ ys)
  InTurn-append [] ys h turn = turn
  InTurn-append (x ∷ xs) ys h turn =
      ((λ m i. h x m (inl refl) i), InTurn-append xs ys (λ n m i j. h n m (inr i) (inr j)) turn)

  -- steps in turn, with the members of a list, and as many as it has
  pub record AreStepsOf (g steps : List N) : Type 0 where
    pub in_turn : InTurn feeds steps
    pub to : AllIn g steps
    pub from : AllIn steps g
    pub long : length steps ≡ length g

  pub steps_from_order : (g steps : List N) → IsOrder feeds g steps → AreStepsOf g steps
  steps_from_order g steps order =
      grind (
        arith,
        AllIn-permutation g steps order.same_nodes,
        AllIn-permutation_back g steps order.same_nodes,
        length_permutation g steps order.same_nodes,
      )

  steps_exist : (k : ℕ) (g : List N)
      → is_empty (left_after feeds k g) ≡ true
      → (steps : List N) × AreStepsOf g steps
  steps_exist zero [] h =
      ([], record { in_turn = tt; to = (λ x i. i); from = (λ x i. i); long = refl })
  steps_exist zero (x ∷ xs) h = absurd (cc h)
  steps_exist (suc k) g h =
      let found = steps_exist k (fed_nodes feeds g) h in
      let steps = found.0 in
      let o = found.1 in
      let fed : N → Bool = λ n. is_fed feeds g n in
      let ready : List N = filter (λ n. not (fed n)) g in
      let in_g : AllIn (ready ++ steps) g =
      λ x i. grind (
        arith,
        In-append x ready steps i,
        In-from_filter (λ n. not (fed n)) x g,
        In-from_filter
            fed x g,
        o.from x,
      ) in (
        ready ++ steps,
        record {
          in_turn = InTurn-append ready steps
              (λ n m i j. not_fed g n
              (let r = In-from_filter (λ z. not (fed z)) n g i in not-true (fed n) r.1) m
              (in_g m j))
              o.in_turn;
          to = (λ x i.
              grind (
                arith,
                cases_Bool (fed x),
                In-right x ready steps,
                In-left x ready steps,
                o.to x,
                In-filter fed x g i,
                In-filter (λ n. not (fed n)) x g i,
              ));
          from = in_g;
          long =
              (let a = length-append ready steps in let b = length-filter_both fed
              (λ n. not (fed n)) (λ n. refl) g in let c = o.long in omega arith);
        },
      )

  pub steps_from_no_cycle : (g : List N)
      → has_cycle feeds g ≡ false
      → (steps : List N) × AreStepsOf g steps
  steps_from_no_cycle g h =
      steps_exist (length g) g (not-false (is_empty (left_after feeds (length g) g)) h)

  -- what has an order has no cycle
  pub no_cycle_from_order : (g steps : List N) → IsOrder feeds g steps → has_cycle feeds g ≡ false
  no_cycle_from_order g steps order =
      let within = AllIn-permutation g steps order.same_nodes in
      false_from_ne_true (has_cycle feeds g)
      (λ e. no_cycle_in_turn feeds g steps order.in_turn within (cycle_from-has_cycle feeds g e))

  -- ---- an order is made node by node

  -- no node of `steps` is fed by itself, by a later one, or by one of `rest`
  abbrev pub InTurnThen : List N → List N → Type 0
  InTurnThen [] rest = Unit {0}
  InTurnThen (n ∷ ns) rest =
      ((m : N) → In m ((n ∷ ns) ++ rest) → feeds m n ≡ false) × InTurnThen ns rest

  -- one more node is ordered
  InTurnThen-more : (steps rest less : List N) (x : N)
      → AllIn (x ∷ less) rest
      → ((m : N) → In m rest → feeds m x ≡ false)
      → InTurnThen steps rest
      → InTurnThen (steps ++ x ∷ []) less
  InTurnThen-more [] rest less x within ready turn = ((λ m i. ready m (within m i)), tt)
  InTurnThen-more (n ∷ ns) rest less x within ready turn = (
    (λ m i. grind (
      arith,
      turn.0 m,
      In-append m ((n ∷ ns) ++ x ∷ []) less i,
      In-append m (n ∷ ns) (x ∷ []),
      In-left m (n ∷ ns) rest,
      In-right m (n ∷ ns) rest,
      within m,
    )),
    InTurnThen-more ns rest less x within ready turn.1,
  )

  pub InTurnThen-next : (steps rest : List N) (i : ℕ) (x : N)
      → i < length rest
      → x ≡ get_or rest i x
      → is_fed feeds rest x ≡ false
      → InTurnThen steps rest
      → InTurnThen (steps ++ x ∷ []) (remove rest i)
  InTurnThen-next steps rest i x within read unfed turn =
      search (rules, InTurnThen-more, AllIn-permutation_back, IsPermutation-remove, not_fed)

  InTurn-from_then : (steps : List N) → InTurnThen steps [] → InTurn feeds steps
  InTurn-from_then [] h = tt
  InTurn-from_then (n ∷ ns) h = ((λ m i. h.0 m (In-left m (n ∷ ns) [] i)), InTurn-from_then ns h.1)

  -- all are ordered
  pub IsOrder-from_then : (g steps : List N)
      → IsPermutation g (steps ++ [])
      → InTurnThen steps []
      → IsOrder feeds g steps
  IsOrder-from_then g steps same turn = grind (arith, append-nil steps, InTurn-from_then steps turn)

  -- where all that are left wait, there is a cycle
  pub cycle_from_stuck : (g steps rest : List N)
      → IsPermutation g (steps ++ rest)
      → ((n : N) → In n rest → is_fed feeds rest n ≡ true)
      → is_empty rest ≡ false
      → HasCycle feeds g
  cycle_from_stuck g steps rest same stuck more =
      grind (
        arith,
        cycle_or_empty feeds g rest
            (λ x h. AllIn-permutation_back g (steps ++ rest) same x (In-right x steps rest h))
            (λ n i. In-from_any (λ m. feeds m n) rest (stuck n i)) more,
      )

-- ---- nodes, and what carries them

module _ {M N : Type 0} (f : M → N) (feeds : N → N → Bool) where
  abbrev links : M → M → Bool
  links a b = feeds (f a) (f b)

  left-map : (k : ℕ) (g : List M) → map f (left_after links k g) ≡ left_after feeds k (map f g)
  left-map zero g = refl
  left-map (suc k) g =
      grind (
        arith,
        left-map k (fed_nodes links g),
        filter-map f (λ n. list_any (λ m. links m n) g)
            (λ n. list_any (λ m. feeds m n) (map f g)) (λ n. any-map f (λ m. feeds m (f n)) g) g,
      )

  is_empty-map : (g : List M) → is_empty (map f g) ≡ is_empty g
  is_empty-map g = grind arith

  pub has_cycle-map : (g : List M) → has_cycle links g ≡ has_cycle feeds (map f g)
  has_cycle-map g =
      grind (
        arith,
        is_empty-map (left_after links (length g) g),
        left-map (length g) g,
        length-map g f,
      )

  InTurn-map : (steps : List M) → InTurn links steps → InTurn feeds (map f steps)
  InTurn-map [] turn = tt
  InTurn-map (n ∷ ns) turn = (
    (λ m i. let r = In-from_map f m (n ∷ ns) i in ap (λ z. feeds z (f n)) r.2 ∙ turn.0 r.0 r.1),
    InTurn-map ns turn.1,
  )

  pub IsOrder-map : (g steps : List M)
      → IsOrder links g steps
      → IsOrder feeds (map f g) (map f steps)
  IsOrder-map g steps order = record {
    same_nodes = IsPermutation-map f g steps order.same_nodes;
    in_turn = InTurn-map steps order.in_turn;
  }
