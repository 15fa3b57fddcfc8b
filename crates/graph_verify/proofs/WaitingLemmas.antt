-- Nodes that are put in order one by one.
use Rattle.std.proofs.Common.{◌≡◌, ℕ, ◌<◌, Bool, true, false, List, [], ◌∷◌, ◌++◌, length, get_or, map, refl, sym, ◌∙◌, ap, subst, arith, ◌&&◌, position, Some, None, not, ◌||◌, map-id}
use Rattle.graph_verify.proofs.Common.{remove, IsPermutation, cases_Bool, not-true, not-false, map-append, length-map, IsPermutation-refl, IsPermutation-map, IsPermutation-remove, Node, Reference, Linked, In, has_cycle, is_empty, linked_nodes, writes, feeds, is_written, IsOrder, two_writers, once_ordered, fun_ext}
use Rattle.std.proofs.lemmas.List.{get_or-map}
use Rattle.std.proofs.lemmas.List.Quantifiers.{position-Some}
use Rattle.std.proofs.lemmas.List.Sorted.{IsPermutation-more, IsPermutation-trans, IsPermutation-append_right, list_any-IsPermutation}
use Rattle.std.proofs.lemmas.Simd.{map-map}
use Rattle.graph_verify.specs.Waiting.{WaitingNode, waiting_among}
use Rattle.graph_verify.proofs.CycleLemmas.{has_cycle-from_cycle}
use Rattle.graph_verify.proofs.LinkLemmas.{is_fed-written, two_writers-permutation, two_writers-after, written_once}
use Rattle.graph_verify.proofs.MemberLemmas.{In-from_map, any-map, map-remove, position-None, In-at}
use Rattle.graph_verify.proofs.OrderLemmas.{is_fed, InTurnThen, InTurnThen-next, IsOrder-from_then, cycle_from_stuck, no_cycle_from_order, has_cycle-map}

abbrev links : Linked → Linked → Bool
links a b = feeds a.node b.node

-- the nodes that aren't in the order yet
abbrev pub unordered : List WaitingNode → List Linked
unordered rest = map (λ w. w.linked) rest

-- some of the nodes are in the order, and the others are known by what they wait for
pub record IsOrdering (nodes steps : List Linked) (rest : List WaitingNode) : Type 0 where
  pub same_nodes : IsPermutation nodes (steps ++ unordered rest)
  pub in_turn : InTurnThen links steps (unordered rest)
  pub waiting : rest ≡ map (waiting_among (linked_nodes (unordered rest))) (unordered rest)

pub none_ordered : (nodes : List Linked) (rest : List WaitingNode)
    → rest ≡ map (waiting_among (linked_nodes nodes)) nodes
    → IsOrdering nodes [] rest
none_ordered nodes rest is =
    grind (
      arith,
      map-map (λ (w : WaitingNode). w.linked) (waiting_among (linked_nodes nodes)) nodes,
      map-id nodes,
      IsPermutation-refl nodes,
    )

-- a node waits where it is fed
waits-fed : (nodes steps : List Linked) (rest : List WaitingNode)
    → IsOrdering nodes steps rest
    → (w : WaitingNode)
    → In w rest
    → (w.for_in1 || w.for_in2) ≡ is_fed links (unordered rest) w.linked
waits-fed nodes steps rest h w i =
    let us = unordered rest in
    let ns = linked_nodes us in
    let from = In-from_map (waiting_among ns) w us (subst (λ l. In w l) h.waiting i) in
    let node : w.linked ≡ from.0 = ap (λ (v : WaitingNode). v.linked) from.2 in
    ap (λ (v : WaitingNode). v.for_in1 || v.for_in2) from.2
    ∙ sym (is_fed-written ns from.0.node)
    ∙ sym (any-map (λ (l : Linked). l.node) (λ m. feeds m from.0.node) us)
    ∙ ap (is_fed links us) (sym node)

-- where all wait, there is a cycle
pub all_wait : (nodes steps : List Linked) (rest : List WaitingNode)
    → IsOrdering nodes steps rest
    → 0 < length rest
    → None ≡ position (λ w. not (w.for_in1 || w.for_in2)) rest
    → has_cycle feeds (linked_nodes nodes) ≡ true
all_wait nodes steps rest h more none =
    sym (has_cycle-map (λ (l : Linked). l.node) feeds nodes)
    ∙ has_cycle-from_cycle links nodes
    (cycle_from_stuck links nodes steps (unordered rest) h.same_nodes stuck (some rest more))
  where
    some : (rest : List WaitingNode) → 0 < length rest → is_empty (unordered rest) ≡ false
    some [] h = absurd (omega (arith, h))
    some (w ∷ rest) h = refl

    stuck : (l : Linked) → In l (unordered rest) → is_fed links (unordered rest) l ≡ true
    stuck l i =
        let from = In-from_map (λ (w : WaitingNode). w.linked) l rest i in
        let waits =
        not-false (from.0.for_in1 || from.0.for_in2)
        (position-None (λ w. not (w.for_in1 || w.for_in2)) rest (sym none) from.0 from.1) in
        ap (is_fed links (unordered rest)) from.2
        ∙ sym (waits-fed nodes steps rest h from.0 from.1)
        ∙ waits

-- all are in the order
pub all_ordered : (nodes steps : List Linked) (rest : List WaitingNode)
    → IsOrdering nodes steps rest
    → length rest ≡ 0
    → IsOrder links nodes steps
all_ordered nodes steps [] h none = IsOrder-from_then links nodes steps h.same_nodes h.in_turn
all_ordered nodes steps (w ∷ rest) h none = absurd (omega (arith, none))

pub no_cycle_when_ordered : (nodes steps : List Linked)
    → IsOrder links nodes steps
    → has_cycle feeds (linked_nodes nodes) ≡ false
no_cycle_when_ordered nodes steps order =
    sym (has_cycle-map (λ (l : Linked). l.node) feeds nodes)
    ∙ no_cycle_from_order links nodes steps order

-- ---- one more node is in the order

-- an object that a node or one of the others writes, and not that node, is written by the others
without_one : (a b : Bool) → (a ≡ true → b ≡ false) → ((a || b) && not a) ≡ b
without_one a b h = grind (arith, cases_Bool a, cases_Bool b)

pub once_ordered-among : (n : Node) (all others : List Node)
    → ((c : Reference) → (is_written all c && not (writes n c)) ≡ is_written others c)
    → (l : Linked) → once_ordered n (waiting_among all l) ≡ waiting_among others l
once_ordered-among n all others same l = grind arith

pub one_more_ordered :
    (nodes steps steps' : List Linked) (rest rest' : List WaitingNode) (i : ℕ) (ordered : Linked)
    → two_writers (linked_nodes nodes) ≡ false
    → IsOrdering nodes steps rest
    → Some i ≡ position (λ w. not (w.for_in1 || w.for_in2)) rest
    → ((d : WaitingNode) → ordered ≡ (get_or rest i d).linked)
    → steps' ≡ steps ++ ordered ∷ []
    → rest' ≡ map (once_ordered ordered.node) (remove rest i)
    → IsOrdering nodes steps' rest'
one_more_ordered nodes steps steps' [] rest' i ordered one h found read is_steps is_rest =
    absurd (cc)
one_more_ordered nodes steps steps' (v ∷ vs) rest' i ordered one h found read is_steps is_rest =
    let rest : List WaitingNode = v ∷ vs in
    let us = unordered rest in
    let w : WaitingNode = get_or rest i v in
    let at_index = position-Some (λ w. not (w.for_in1 || w.for_in2)) rest i v (sym found) in
    let within : i < length us =
    omega (arith, at_index.0, length-map rest (λ (w : WaitingNode). w.linked)) in
    let stands : ordered ≡ get_or us i ordered =
    read v ∙ sym (get_or-map (λ (w : WaitingNode). w.linked) rest i v ordered at_index.0) in
    let unfed : is_fed links us ordered ≡ false =
    ap (is_fed links us) (read v)
    ∙ sym (waits-fed nodes steps rest h w (In-at rest i v at_index.0))
    ∙ not-true (w.for_in1 || w.for_in2) at_index.1 in
    let others = remove us i in
    let left : unordered rest' ≡ others =
    ap unordered is_rest
    ∙ map-map (λ (w : WaitingNode). w.linked) (once_ordered ordered.node) (remove rest i)
    ∙ map-remove (λ (w : WaitingNode). w.linked) rest i in
    let around = IsPermutation-remove us i ordered within stands in
    let all_others : IsPermutation nodes (steps ++ ordered ∷ others) =
    IsPermutation-trans nodes (steps ++ us) (steps ++ ordered ∷ others) h.same_nodes
    (IsPermutation-append_right steps us (ordered ∷ others) around) in
    let one_of_these : two_writers (linked_nodes (ordered ∷ others)) ≡ false =
    two_writers-after (linked_nodes steps) (linked_nodes (ordered ∷ others))
    (ap two_writers (sym (map-append (λ (l : Linked). l.node) steps (ordered ∷ others)))
    ∙ two_writers-permutation (linked_nodes nodes) (linked_nodes (steps ++ ordered ∷ others))
    (IsPermutation-map (λ (l : Linked). l.node) nodes (steps ++ ordered ∷ others) all_others)
    one) in
    let written : (c : Reference)
    → (is_written (linked_nodes us) c && not (writes ordered.node c))
    ≡ is_written (linked_nodes others) c =
    λ c.
    ap (λ b. b && not (writes ordered.node c))
    (list_any-IsPermutation (λ n. writes n c) (linked_nodes us)
    (linked_nodes (ordered ∷ others))
    (IsPermutation-map (λ (l : Linked). l.node) us (ordered ∷ others) around))
    ∙ without_one (writes ordered.node c) (is_written (linked_nodes others) c)
    (written_once ordered.node (linked_nodes others) one_of_these c) in
    record {
      same_nodes =
          rw (is_steps, left)
          (IsPermutation-more nodes steps us i ordered within stands h.same_nodes);
      in_turn =
          rw (is_steps, left)
          (InTurnThen-next links steps us i ordered within stands unfed h.in_turn);
      waiting =
          is_rest
          ∙ ap (λ l. map (once_ordered ordered.node) (remove l i)) h.waiting
          ∙ ap (map (once_ordered ordered.node))
          (sym (map-remove (waiting_among (linked_nodes us)) us i))
          ∙ map-map (once_ordered ordered.node) (waiting_among (linked_nodes us)) others
          ∙ ap (λ f. map f others)
          (fun_ext
          (once_ordered-among ordered.node (linked_nodes us) (linked_nodes others) written))
          ∙ ap (λ l. map (waiting_among (linked_nodes l)) l) (sym left);
    }
