-- The virtual images that nodes write, resolved node by node.
use Rattle.std.proofs.Common.{◌≡◌, ℕ, ◌+◌, ◌<◌, ◌≤◌, Bool, true, false, List, [], ◌∷◌, ◌++◌, length, map, take, drop, get_or, IsTrue, refl, sym, ◌∙◌, ap, subst, inl, inr, arith, find, unwrap_or, All, ◌⊎◌, Option, Some, None, append-nil, take_all, take-append-drop}
use Rattle.graph_verify.proofs.Common.{option_map, filter, flat_map, cases_Bool, false_from_ne_true, map-append, filter-append, flat_map-append, Node, Reference, same_reference, optional_cells, inputs, outputs, PartialDescription, with_defaults, ResolvedOutput, Linked, Operand, Image, Virtual, In, known_operands, AreResolved, linked_nodes, AreOperands, writes, feeds, is_virtual, is_image, operands_of, InTurn, operand_partial_desc, given_partial_desc, written_partial_desc, partial_descs, resolved_operand, IsSolution, two_writers, virtual_outputs}
use Rattle.std.proofs.lemmas.List.{drop_more, take_more}
use Rattle.graph_verify.specs.ResolvedOutputs.{known_of, known_partial_desc, resolved_output, resolved_by, known_operand}
use Rattle.graph_verify.proofs.LinkLemmas.{same_cell-true, same_cell-is, In-outputs, feeds_is, same-from_In}
use Rattle.graph_verify.proofs.MemberLemmas.{In-left, In-right, In-append, In-from_map, In-filter, In-at, Contains-from_In}
use Rattle.graph_verify.proofs.PartialDescriptionLemmas.{partial_descs_solve, no_cycle_in_steps, image_partial_desc}

-- what `find` finds, and where it finds none
pub find_cases : {X : Type 0} (p : X → Bool) (xs : List X)
    → ((x : X) × (find p xs ≡ Some x) × In x xs × (p x ≡ true))
    ⊎ ((find p xs ≡ None) × ((x : X) → In x xs → p x ≡ false))
find_cases p [] = inr (refl, λ x i. absurd i)
find_cases p (x ∷ xs) = grind (arith, find_cases p xs, cases_Bool (p x))

module _ (is : Reference → Operand) where
  -- the virtual images that the done nodes write, with their final descriptions
  pub record AreLearnt (all done : List Node) (known : List ResolvedOutput) : Type 0 where
    pub cells : map (λ k. k.cell) known ≡ virtual_outputs is done
    pub each : (k : ResolvedOutput) → In k known → k.partial_desc ≡ partial_descs is all k.cell

  abbrev Solves : List Node → Type 0
  Solves all =
      IsSolution writes (written_partial_desc is) all (λ c. operand_partial_desc (is c))
      (partial_descs is all)

  virtual_written : (n : Node) (done : List Node) (c : Reference)
      → In n done
      → writes n c ≡ true
      → is_virtual (is c) ≡ true
      → In c (virtual_outputs is done)
  virtual_written n done c i w virtual =
      In-filter (λ d. is_virtual (is d)) c (flat_map outputs done) (In-outputs n c done i w) virtual

  -- a virtual image is fully resolved once the node that writes it is done
  virtual_known : (all done : List Node) (known : List ResolvedOutput)
      → Solves all
      → AreLearnt all done known
      → (c : Reference) (declared : PartialDescription)
      → is c ≡ Virtual declared
      → ((n : Node) → In n all → writes n c ≡ true → In n done)
      → unwrap_or (known_of known c) declared ≡ partial_descs is all c
  virtual_known all done known solves h c declared virtual writers_done =
      elim (find_cases (λ k. same_reference k.cell c) known) [
        | inl found ↦ (
            let same : found.0.cell ≡ c = same_cell-true found.0.cell c found.3 in
            ap
            (λ (o : Option ResolvedOutput). unwrap_or
            (option_map (λ (k : ResolvedOutput). k.partial_desc) o) declared)
            found.1
            ∙ h.each found.0 found.2
            ∙ ap (partial_descs is all) same)
        | inr none ↦ (
            let unwritten : (n : Node) → In n all → writes n c ≡ false =
            λ n i. false_from_ne_true (writes n c) (λ w.
            let stands = virtual_written n done c (writers_done n i w) w (ap is_virtual virtual) in
            let resolved_of =
            In-from_map (λ (k : ResolvedOutput). k.cell) c known
            (subst (λ l. In c l) (sym h.cells) stands) in
            let differs = none.1 resolved_of.0 resolved_of.1 in
            let equal = same_cell-is resolved_of.0.cell c (sym resolved_of.2) in cc) in
            ap
            (λ (o : Option ResolvedOutput). unwrap_or
            (option_map (λ (k : ResolvedOutput). k.partial_desc) o) declared)
            none.0
            ∙ sym (ap operand_partial_desc virtual)
            ∙ sym (solves.others c unwritten))
      ]

  partial_desc_known : (all done : List Node) (known : List ResolvedOutput)
      → Solves all
      → AreLearnt all done known
      → (c : Reference) (o : Operand)
      → is c ≡ o
      → IsTrue (is_image o)
      → ((n : Node) → In n all → writes n c ≡ true → In n done)
      → known_partial_desc known c o ≡ partial_descs is all c
  partial_desc_known all done known solves h c (Image d) e image writers_done =
      sym (image_partial_desc is all c d e)
  partial_desc_known all done known solves h c (Virtual declared) e image writers_done =
      virtual_known all done known solves h c declared e writers_done
  partial_desc_known all done known solves h c other e image writers_done = absurd (cc image)

  -- ---- one more node

  resolved_cells : (cell : Option Reference) (given_to : PartialDescription)
      → map (λ (k : ResolvedOutput). k.cell) (resolved_output cell (option_map is cell) given_to)
      ≡ filter (λ c. is_virtual (is c)) (optional_cells cell)
  resolved_cells cell given_to = grind arith

  resolved_each : (cell : Option Reference) (given_to : PartialDescription) (k : ResolvedOutput)
      → In k (resolved_output cell (option_map is cell) given_to)
      → In k.cell (optional_cells cell)
      × (k.partial_desc ≡ with_defaults (operand_partial_desc (is k.cell)) given_to)
  resolved_each cell given_to k i = grind arith

  InTurn-at : (done : List Node) (n : Node) (rest : List Node)
      → InTurn feeds (done ++ n ∷ rest)
      → (m : Node)
      → In m (n ∷ rest)
      → feeds m n ≡ false
  InTurn-at [] n rest turn = turn.0
  InTurn-at (d ∷ done) n rest turn = InTurn-at done n rest turn.1

  virtual_outputs-push : (done : List Node) (n : Node)
      → virtual_outputs is (done ++ n ∷ [])
      ≡ virtual_outputs is done
      ++
      (filter (λ c. is_virtual (is c)) (optional_cells n.out1)
      ++ filter (λ c. is_virtual (is c)) (optional_cells n.out2))
  virtual_outputs-push done n = grind (arith, flat_map-append, filter-append, append-nil)

  pub learn_more : (done rest : List Node) (l : Linked) (known known' : List ResolvedOutput)
      → two_writers (done ++ l.node ∷ rest) ≡ false
      → InTurn feeds (done ++ l.node ∷ rest)
      → l.operands ≡ operands_of is l.node
      → IsTrue (is_image l.operands.in1)
      → AreLearnt (done ++ l.node ∷ rest) done known
      → known' ≡ known ++ resolved_by known l
      → AreLearnt (done ++ l.node ∷ rest) (done ++ l.node ∷ []) known'
  learn_more done rest l known known' one turn operands image h is_known' =
      let n = l.node in
      let all = done ++ n ∷ rest in
      let solves = partial_descs_solve is all one (no_cycle_in_steps is all turn) in
      let writers_done : (m : Node) → In m all → writes m n.in1 ≡ true → In m done =
      λ m i w. elim (In-append m done (n ∷ rest) i) [
        | inl j ↦ j
        | inr j ↦
            (let fed = feeds_is m n n.in1 w (same-from_In n.in1 (inputs n) (inl refl)) in let
            unfed = InTurn-at done n rest turn m j in absurd (cc))
      ] in
      let first : known_partial_desc known n.in1 (is n.in1) ≡ partial_descs is all n.in1 =
      partial_desc_known all done known solves h n.in1 (is n.in1) refl (rw operands at image)
      writers_done in
      let gives = given_partial_desc n.function (known_partial_desc known n.in1 (is n.in1)) in
      let is_new :
      known'
      ≡ known
      ++
      (resolved_output n.out1 (option_map is n.out1) gives
      ++ resolved_output n.out2 (option_map is n.out2) gives)
      =
      rw operands at is_known' in
      let written : (k : ResolvedOutput)
      → In k.cell (outputs n)
      → k.partial_desc ≡ with_defaults (operand_partial_desc (is k.cell)) gives
      → k.partial_desc ≡ partial_descs is all k.cell =
      λ k i e.
      e
      ∙ ap
      (λ o. with_defaults (operand_partial_desc (is k.cell)) (given_partial_desc n.function o))
      first
      ∙ sym
      (solves.written n k.cell (In-right n done (n ∷ rest) (inl refl))
      (same-from_In k.cell (outputs n) i))
      in
      record {
        cells =
            rw (
              is_new,
              map-append,
              map-append,
              h.cells,
              resolved_cells n.out1 gives,
              resolved_cells n.out2 gives,
            )
            (sym (virtual_outputs-push done n));
        each = (λ k i.
            let new =
            In-append k (resolved_output n.out1 (option_map is n.out1) gives)
            (resolved_output n.out2 (option_map is n.out2) gives) in
            let at =
            In-append k known
            (resolved_output n.out1 (option_map is n.out1) gives
            ++ resolved_output n.out2 (option_map is n.out2) gives)
            (subst (λ l. In k l) is_new i) in
            grind (
              arith,
              at,
              new,
              h.each k,
              written k,
              resolved_each n.out1 gives k,
              resolved_each n.out2 gives k,
              In-left k.cell (optional_cells n.out1) (optional_cells n.out2),
              In-right k.cell (optional_cells n.out1) (optional_cells n.out2),
            ));
      }

  -- one more of the steps
  pub learn_next : (steps : List Linked) (i : ℕ) (l : Linked) (known known' : List ResolvedOutput)
      → i < length steps
      → l ≡ get_or steps i l
      → two_writers (linked_nodes steps) ≡ false
      → InTurn feeds (linked_nodes steps)
      → All (λ k. IsTrue (is_image k.operands.in1)) steps
      → AreOperands is steps
      → AreLearnt (linked_nodes steps) (linked_nodes (take i steps)) known
      → known' ≡ known ++ resolved_by known l
      → AreLearnt (linked_nodes steps) (linked_nodes (take (i + 1) steps)) known'
  learn_next steps i l known known' within read one turn images operands h is_known' =
      let done = linked_nodes (take i steps) in
      let rest = linked_nodes (drop (i + 1) steps) in
      let at_l : drop i steps ≡ l ∷ drop (i + 1) steps =
      drop_more steps i l within ∙ ap (λ (k : Linked). k ∷ drop (i + 1) steps) (sym read) in
      let split : linked_nodes steps ≡ done ++ l.node ∷ rest =
      ap linked_nodes (sym (take-append-drop i steps))
      ∙ map-append (λ (k : Linked). k.node) (take i steps) (drop i steps)
      ∙ ap (λ k. done ++ linked_nodes k) at_l in
      let next : linked_nodes (take (i + 1) steps) ≡ done ++ l.node ∷ [] =
      ap linked_nodes
      (take_more steps i l within ∙ ap (λ (k : Linked). take i steps ++ k ∷ []) (sym read))
      ∙ map-append (λ (k : Linked). k.node) (take i steps) (l ∷ []) in
      let of_l : l.operands ≡ operands_of is l.node =
      subst (λ (k : Linked). k.operands ≡ operands_of is k.node) (sym read) (operands i l within) in
      let image : IsTrue (is_image l.operands.in1) =
      subst (λ (k : Linked). IsTrue (is_image k.operands.in1)) (sym read) (images i l within) in
      let resolved_here =
      learn_more done rest l known known' (ap two_writers (sym split) ∙ one)
      (subst (InTurn feeds) split turn) of_l image
      (subst (λ all. AreLearnt all done known) split h) is_known' in
      subst (λ all. AreLearnt all (linked_nodes (take (i + 1) steps)) known') (sym split)
      (subst (λ now. AreLearnt (done ++ l.node ∷ rest) now known') (sym next) resolved_here)

  -- ---- all nodes are done

  pub operand_known : (all : List Node) (known : List ResolvedOutput)
      → Solves all
      → AreLearnt all all known
      → (c : Reference)
      → known_operand known c (is c) ≡ resolved_operand is all c
  operand_known all known solves h c = grind (arith, partial_desc_known)

  pub all_known : (steps : List Linked) (i : ℕ) (known : List ResolvedOutput)
      → length steps ≤ i
      → AreLearnt (linked_nodes steps) (linked_nodes (take i steps)) known
      → AreResolved is (linked_nodes steps) known
  all_known steps i known over h =
      let all : take i steps ≡ steps = take_all i steps over in
      record {
        cells = h.cells ∙ ap (λ l. virtual_outputs is (linked_nodes l)) all;
        each = (λ k d within. h.each (get_or known k d) (In-at known k d within));
      }

  -- the resolved virtual images are those of all nodes
  pub resolved_from_known : (all : List Node) (known : List ResolvedOutput)
      → AreResolved is all known
      → AreLearnt all all known
  resolved_from_known all known h = record {
    cells = h.cells;
    each =
        (λ k i. let c = Contains-from_In k known i in subst
        (λ (j : ResolvedOutput). j.partial_desc ≡ partial_descs is all j.cell) c.2
        (h.each c.0 k c.1));
  }

  -- the operands of a node
  pub operands_known : (all : List Node) (known : List ResolvedOutput)
      → Solves all
      → AreResolved is all known
      → (l : Linked)
      → l.operands ≡ operands_of is l.node
      → known_operands known l ≡ operands_of (resolved_operand is all) l.node
  operands_known all known solves h l of_l =
      grind (
        arith,
        operand_known all known solves (resolved_from_known all known h),
        resolved_from_known all known h,
      )
