-- A verified graph, whatever operands its references have: there are some for which it is verified.
use Rattle.std.proofs.Common.{◌≡◌, ℕ, false, List, [], ◌∷◌, length, map, find, inl, inr, refl, sym, ◌∙◌, ap, subst, Option, Some, None, get_or}
use Rattle.graph_verify.proofs.Common.{flat_map, filter_map, length-map, false_from_ne_true, IsPermutation, IsPermutation-map, Node, Reference, same_reference, outputs, with_defaults, partial_desc_of, ResolvedOutput, Linked, Operand, Image, Virtual, In, described_output, linked_nodes, feeds, is_virtual, IsOrder, operand_partial_desc, given_partial_desc, partial_descs, as_known, resolved_operand, two_writers, virtual_outputs}
use Rattle.std.specs.List.{zip}
use Rattle.vx_base.specs.PartialDescription.{full_description}
use Rattle.graph_verify.specs.declared.known.VirtualOutput.{VirtualOutput}
use Rattle.graph_verify.specs.declared.operand.Operand.TheVariants.{Missing}
use Rattle.graph_verify.specs.Links.{has_twice}
use Rattle.graph_verify.specs.Members.{IsSublist}
use Rattle.graph_verify.specs.PartialDescriptions.{virtual_or_image}
use Rattle.graph_verify.specs.Verified.{VerifiedValue, IsVerifiedGraph}
use Rattle.graph_verify.proofs.KnownLemmas.{find_cases}
use Rattle.graph_verify.proofs.LinkLemmas.{two_writers-permutation, same-from_In, same_cell-true, same_cell-is}
use Rattle.graph_verify.proofs.MemberLemmas.{In-at, In-map, In-from_map, In-from_flat_map, AllIn-permutation_back}
use Rattle.graph_verify.proofs.OrderLemmas.{no_cycle_from_order}
use Rattle.graph_verify.proofs.PartialDescriptionLemmas.{partial_descs_solve}
use Rattle.graph_verify.proofs.SublistLemmas.{In-sublist, not_again, once-sublist, filter-sublist, described_sublist}
use Rattle.graph_verify.proofs.VerifyLemmas.{links, nodes_order}

abbrev cell_of : VirtualOutput → Reference
cell_of o = o.cell

-- an image of its own reference is found by it
found_own : (outs : List VirtualOutput)
    → has_twice (map cell_of outs) ≡ false
    → (o : VirtualOutput)
    → In o outs
    → find (λ (q : VirtualOutput). same_reference q.cell o.cell) outs ≡ Some o
found_own [] once o i = absurd i
found_own (q ∷ outs) once o (inl here) =
    rw (same_cell-is q.cell o.cell (ap cell_of (sym here))) (ap Some (sym here))
found_own (q ∷ outs) once o (inr later) =
    let rest = not_again q.cell (map cell_of outs) once in
    let differs : same_reference q.cell o.cell ≡ false =
    false_from_ne_true (same_reference q.cell o.cell)
    (λ same. rest.0
    (subst (λ c. In c (map cell_of outs)) (sym (same_cell-true q.cell o.cell same))
    (In-map cell_of o outs later)))
    in
    rw differs (found_own outs rest.1 o later)

-- a written virtual image, declared with its full description
abbrev declared_as : Option VirtualOutput → Operand
declared_as None = Missing
declared_as (Some o) = Virtual (partial_desc_of o.desc)

module _ (nodes steps : List Node) (outs : List VirtualOutput) (one : two_writers nodes ≡ false)
    (order : IsOrder feeds nodes steps)
    (within : IsSublist (map cell_of outs) (flat_map outputs steps)) where
  abbrev is : Reference → Operand
  is c = declared_as (find (λ (o : VirtualOutput). same_reference o.cell c) outs)

  one_in_steps : two_writers steps ≡ false
  one_in_steps = two_writers-permutation nodes steps order.same_nodes one

  is_own : (o : VirtualOutput) → In o outs → is o.cell ≡ Virtual (partial_desc_of o.desc)
  is_own o i =
      ap declared_as
      (found_own outs
      (once-sublist (map cell_of outs) (flat_map outputs steps) within one_in_steps) o i)

  are_cells : map cell_of outs ≡ virtual_outputs is steps
  are_cells =
      sym
      (filter-sublist (λ c. is_virtual (is c)) (map cell_of outs) (flat_map outputs steps)
      within one_in_steps
      (λ c i. let o = In-from_map cell_of c outs i in ap (λ d. is_virtual (is d)) o.2
      ∙ ap is_virtual (is_own o.0 o.1))
      (λ c i out. elim (find_cases (λ (o : VirtualOutput). same_reference o.cell c) outs) [
        | inl found ↦
            absurd
            (out
            (subst (λ d. In d (map cell_of outs)) (same_cell-true found.0.cell c found.3)
            (In-map cell_of found.0 outs found.2)))
        | inr none ↦ ap (λ r. is_virtual (declared_as r)) none.0
      ]))

  description : (o : VirtualOutput) → In o outs → resolved_operand is nodes o.cell ≡ Image o.desc
  description o i =
      let writer =
      In-from_flat_map outputs o.cell steps
      (In-sublist o.cell (map cell_of outs) (flat_map outputs steps) within
      (In-map cell_of o outs i))
      in
      let n = writer.0 in
      let solves = partial_descs_solve is nodes one (no_cycle_from_order feeds nodes steps order) in
      let resolved : partial_descs is nodes o.cell ≡ partial_desc_of o.desc =
      solves.written n o.cell (AllIn-permutation_back nodes steps order.same_nodes n writer.1)
      (same-from_In o.cell (outputs n) writer.2)
      ∙ ap
      (λ x. with_defaults (operand_partial_desc x)
      (given_partial_desc n.function (partial_descs is nodes n.in1)))
      (is_own o i) in
      ap (λ x. as_known x (partial_descs is nodes o.cell)) (is_own o i)
      ∙ ap (λ p. virtual_or_image p (full_description p)) resolved

module _ (nodes steps : List Linked) (order : IsOrder links nodes steps) where
  -- the graph is verified for some operands
  pub verified_graph : two_writers (linked_nodes nodes) ≡ false
      → (v : VerifiedValue)
      → v.steps ≡ linked_nodes steps
      → v.order ≡ map (λ l. l.number) steps
      → (known : List ResolvedOutput)
      → IsSublist (map (λ k. k.cell) known) (flat_map outputs (linked_nodes steps))
      → v.virtual_outputs ≡ filter_map described_output known
      → IsVerifiedGraph v
  verified_graph one v is_steps is_order known sub is_outputs =
      let ns = linked_nodes nodes in
      let in_order : IsOrder feeds ns v.steps =
      subst (IsOrder feeds ns) (sym is_steps) (nodes_order nodes steps one order) in
      let within : IsSublist (map cell_of v.virtual_outputs) (flat_map outputs v.steps) =
      subst (λ outs. IsSublist (map cell_of outs) (flat_map outputs v.steps)) (sym is_outputs)
      (subst
      (λ ss. IsSublist (map cell_of (filter_map described_output known)) (flat_map outputs ss))
      (sym is_steps) (described_sublist known (flat_map outputs (linked_nodes steps)) sub))
      in
      record {
        is = is ns v.steps v.virtual_outputs one in_order within;
        nodes = ns;
        verified =
            record {
              order = in_order;
              cells = are_cells ns v.steps v.virtual_outputs one in_order within;
              descriptions =
                  (λ k d below. description ns v.steps v.virtual_outputs one in_order within
                  (get_or v.virtual_outputs k d) (In-at v.virtual_outputs k d below));
            };
        one_writer = one;
        numbers =
            ap length is_order
            ∙ length-map steps (λ (l : Linked). l.number)
            ∙ sym (length-map steps (λ (l : Linked). l.node))
            ∙ sym (ap length is_steps);
      }

  -- the numbers of the steps are those of their nodes
  pub numbered : (numbers : List ℕ) (ns : List Node)
      → ns ≡ linked_nodes steps
      → numbers ≡ map (λ l. l.number) steps
      → IsPermutation (map (λ l. (l.number, l.node)) nodes) (zip numbers ns)
  numbered numbers ns is_steps is_order =
      subst (IsPermutation (map (λ (l : Linked). (l.number, l.node)) nodes))
      (sym
      (ap (λ ks. zip ks ns) is_order
      ∙ ap (zip (map (λ (l : Linked). l.number) steps)) is_steps
      ∙ pairs steps))
      (IsPermutation-map (λ (l : Linked). (l.number, l.node)) nodes steps order.same_nodes)
    where
      pairs : (ls : List Linked)
          → zip (map (λ (l : Linked). l.number) ls) (map (λ (l : Linked). l.node) ls)
          ≡ map (λ (l : Linked). (l.number, l.node)) ls
      pairs [] = refl
      pairs (l ∷ ls) = ap (λ ps. (l.number, l.node) ∷ ps) (pairs ls)
