-- Lists that are within others, and the virtual images that nodes write among all that they write.
use Rattle.std.proofs.Common.{◌≡◌, ℕ, ◌+◌, ◌<◌, ◌≤◌, Bool, true, false, List, [], ◌∷◌, ◌++◌, length, map, take, get_or, ◌||◌, inl, inr, refl, sym, ◌∙◌, ap, subst, arith, Option, Some, None, append-nil, take_all}
use Rattle.graph_verify.proofs.Common.{option_map, filter, flat_map, filter_map, flat_map-append, map-append, list_any, false_from_ne_true, Reference, Description, same_reference, optional_cells, outputs, PartialDescription, ResolvedOutput, Linked, Operand, Virtual, In, described_output, given_partial_desc, linked_nodes}
use Rattle.std.proofs.lemmas.List.{take_more}
use Rattle.std.specs.List.{cons_option}
use Rattle.vx_base.specs.PartialDescription.{full_description}
use Rattle.graph_verify.specs.declared.known.VirtualOutput.{VirtualOutput}
use Rattle.graph_verify.specs.Links.{has_twice}
use Rattle.graph_verify.specs.Members.{IsSublist}
use Rattle.graph_verify.specs.ResolvedOutputs.{known_partial_desc, resolved_output, resolved_by}
use Rattle.graph_verify.proofs.LinkLemmas.{In-from_same, same-from_In}

-- ---- lists within others

module _ {X : Type 0} where
  pub sublist-nil : (ys : List X) → IsSublist [] ys
  sublist-nil [] = refl
  sublist-nil (y ∷ ys) = inl (sublist-nil ys)

  pub sublist-append : (xs ys zs ws : List X)
      → IsSublist xs ys
      → IsSublist zs ws
      → IsSublist (xs ++ zs) (ys ++ ws)
  sublist-append xs [] zs ws s t = subst (λ l. IsSublist (l ++ zs) ws) (sym s) t
  sublist-append xs (y ∷ ys) zs ws (inl s) t = inl (sublist-append xs ys zs ws s t)
  sublist-append xs (y ∷ ys) zs ws (inr s) t =
      inr (s.0 ++ zs, ap (λ l. l ++ zs) s.1, sublist-append s.0 ys zs ws s.2 t)

  pub In-sublist : (x : X) (xs ys : List X) → IsSublist xs ys → In x xs → In x ys
  In-sublist x xs [] s i = subst (In x) s i
  In-sublist x xs (y ∷ ys) (inl s) i = inr (In-sublist x xs ys s i)
  In-sublist x xs (y ∷ ys) (inr s) i = elim (subst (In x) s.1 i) [
    | inl here ↦ inl here
    | inr later ↦ inr (In-sublist x s.0 ys s.2 later)
  ]

-- the first of references of which none occurs twice is not among the others
pub not_again : (c : Reference) (cs : List Reference)
    → has_twice (c ∷ cs) ≡ false
    → (In c cs → ⊥) × (has_twice cs ≡ false)
not_again c cs once = grind (arith, same-from_In c cs)

pub once-sublist : (xs ys : List Reference)
    → IsSublist xs ys
    → has_twice ys ≡ false
    → has_twice xs ≡ false
once-sublist xs [] s once = ap has_twice s
once-sublist xs (y ∷ ys) (inl s) once = once-sublist xs ys s (not_again y ys once).1
once-sublist xs (y ∷ ys) (inr s) once =
    let later = not_again y ys once in
    let single : list_any (same_reference y) s.0 ≡ false =
    false_from_ne_true (list_any (same_reference y) s.0)
    (λ t. later.0 (In-sublist y s.0 ys s.2 (In-from_same y s.0 t))) in
    ap has_twice s.1 ∙ ap (λ b. b || has_twice s.0) single ∙ once-sublist s.0 ys s.2 later.1

-- a test that holds of exactly the members of a sublist filters it out
pub filter-sublist : (p : Reference → Bool) (xs ys : List Reference)
    → IsSublist xs ys
    → has_twice ys ≡ false
    → ((c : Reference) → In c xs → p c ≡ true)
    → ((c : Reference) → In c ys → (In c xs → ⊥) → p c ≡ false) → filter p ys ≡ xs
filter-sublist p xs [] s once is_in is_out = sym s
filter-sublist p xs (y ∷ ys) (inl s) once is_in is_out =
    let later = not_again y ys once in
    let skipped : p y ≡ false = is_out y (inl refl) (λ i. later.0 (In-sublist y xs ys s i)) in
    rw skipped (filter-sublist p xs ys s later.1 is_in (λ c i. is_out c (inr i)))
filter-sublist p xs (y ∷ ys) (inr s) once is_in is_out =
    let later = not_again y ys once in
    let there : (c : Reference) → In c (y ∷ s.0) → In c xs = λ c i. subst (In c) (sym s.1) i in
    let kept : p y ≡ true = is_in y (there y (inl refl)) in
    let rest : filter p ys ≡ s.0 =
    filter-sublist p s.0 ys s.2 later.1 (λ c i. is_in c (there c (inr i)))
    (λ c i out. is_out c (inr i)
    (λ j. elim (subst (In c) s.1 j)
    [ inl same ↦ later.0 (subst (λ d. In d ys) same i) | inr k ↦ out k ]))
    in
    rw kept (ap (λ l. y ∷ l) rest ∙ sym s.1)

-- ---- the virtual images that nodes write

resolved_sublist :
    (cell : Option Reference) (operand : Option Operand) (given_to : PartialDescription)
    → IsSublist (map (λ (k : ResolvedOutput). k.cell) (resolved_output cell operand given_to))
    (optional_cells cell)
resolved_sublist (Some cell) (Some (Virtual declared)) given_to = inr ([], refl, refl)
resolved_sublist cell operand given_to = sublist-nil (optional_cells cell)

-- one more of the steps
pub resolved_more : (steps : List Linked) (i : ℕ) (l : Linked) (known known' : List ResolvedOutput)
    → i < length steps
    → l ≡ get_or steps i l
    → known' ≡ known ++ resolved_by known l
    → IsSublist (map (λ k. k.cell) known) (flat_map outputs (linked_nodes (take i steps)))
    → IsSublist (map (λ k. k.cell) known') (flat_map outputs (linked_nodes (take (i + 1) steps)))
resolved_more steps i l known known' within read is_known' h =
    let done = linked_nodes (take i steps) in
    let given_to =
    given_partial_desc l.node.function (known_partial_desc known l.node.in1 l.operands.in1) in
    let first = resolved_output l.node.out1 l.operands.out1 given_to in
    let second = resolved_output l.node.out2 l.operands.out2 given_to in
    let cell : ResolvedOutput → Reference = λ k. k.cell in
    let next :
    flat_map outputs (linked_nodes (take (i + 1) steps)) ≡ flat_map outputs done ++ outputs l.node =
    ap (λ ls. flat_map outputs (linked_nodes ls))
    (take_more steps i l within ∙ ap (λ (k : Linked). take i steps ++ k ∷ []) (sym read))
    ∙ ap (flat_map outputs) (map-append (λ (k : Linked). k.node) (take i steps) (l ∷ []))
    ∙ flat_map-append outputs done (l.node ∷ [])
    ∙ ap (λ o. flat_map outputs done ++ o) (append-nil (outputs l.node)) in
    let cells : map cell known' ≡ map cell known ++ (map cell first ++ map cell second) =
    ap (map cell) is_known'
    ∙ map-append cell known (first ++ second)
    ∙ ap (λ r. map cell known ++ r) (map-append cell first second) in
    let both =
    sublist-append (map cell first) (optional_cells l.node.out1) (map cell second)
    (optional_cells l.node.out2)
    (resolved_sublist l.node.out1 l.operands.out1 given_to)
    (resolved_sublist l.node.out2 l.operands.out2 given_to) in
    subst (λ r. IsSublist r (flat_map outputs (linked_nodes (take (i + 1) steps)))) (sym cells)
    (subst (IsSublist (map cell known ++ (map cell first ++ map cell second))) (sym next)
    (sublist-append (map cell known) (flat_map outputs done) (map cell first ++ map cell second)
    (outputs l.node) h both))

pub all_resolved : (steps : List Linked) (i : ℕ) (cells : List Reference)
    → length steps ≤ i
    → IsSublist cells (flat_map outputs (linked_nodes (take i steps)))
    → IsSublist cells (flat_map outputs (linked_nodes steps))
all_resolved steps i cells over h =
    subst (λ (l : List Linked). IsSublist cells (flat_map outputs (linked_nodes l)))
    (take_all i steps over) h

-- those with a full description
pub described_sublist : (known : List ResolvedOutput) (cs : List Reference)
    → IsSublist (map (λ k. k.cell) known) cs
    → IsSublist (map (λ o. o.cell) (filter_map described_output known)) cs
described_sublist [] cs s = s
described_sublist (k ∷ known) [] s = absurd (cc s)
described_sublist (k ∷ known) (c ∷ cs) (inl s) = inl (described_sublist (k ∷ known) cs s)
described_sublist (k ∷ known) (c ∷ cs) (inr s) =
    let same : k.cell ≡ c = cc (s.1) in
    let rest : s.0 ≡ map (λ (j : ResolvedOutput). j.cell) known = cc (s.1) in
    by same (full_description k.partial_desc)
    (described_sublist known cs (subst (λ l. IsSublist l cs) rest s.2))
  where
    by : k.cell ≡ c
        → (d : Option Description)
        → IsSublist (map (λ (o : VirtualOutput). o.cell) (filter_map described_output known)) cs
        → IsSublist
        (map (λ (o : VirtualOutput). o.cell)
        (cons_option (option_map (λ e. record { cell = k.cell; desc = e }) d)
        (filter_map described_output known)))
        (c ∷ cs)
    by same None t = inl t
    by same (Some d) t =
        inr (
          map (λ (o : VirtualOutput). o.cell) (filter_map described_output known),
          ap (λ x. x ∷ map (λ (o : VirtualOutput). o.cell) (filter_map described_output known))
              same,
          t,
        )
