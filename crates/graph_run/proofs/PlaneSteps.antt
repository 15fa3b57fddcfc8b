-- The planes of a graph's images: which images share one.
use Rattle.std.proofs.Common.{◌≡◌, ◌≢◌, ℕ, ◌+◌, ◌<◌, ◌≤◌, true, false, List, ◌∷◌, ◌++◌, length, refl, sym, ap, subst, ◌∙◌, inl, inr, arith, Some, None, ◌⊎◌, option_map, ◌||◌}
use Rattle.graph_run.proofs.Common.{cases_Bool, In, In-from_map, In-map, Node, Reference, VirtualOutput, is_node_operand, is_written, outputs, same_cell-refl, same_cell-true, same-from_In, same_reference, slot_index_of, writes}
use Rattle.graph_verify.proofs.KnownLemmas.{find_cases}
use Rattle.buffer_plan.specs.Slots.{IsValid}
use Rattle.buffer_plan.proofs.TakenLemmas.{one_when_taken}
use Rattle.graph_run.specs.declared.schedule.Schedule.{Schedule}
use Rattle.graph_verify.specs.declared.verified.Verified.{Verified}
use Rattle.object_table.specs.NamedObject.{NamedObject}
use Rattle.graph_run.specs.Cells.{index_of}
use Rattle.graph_run.specs.Schedule.{CanRunBy}
use Rattle.graph_run.specs.Slots.{slot_total}
use Rattle.graph_run.specs.Tasks.{virtual_description, graph_plane, virtual_output}
use Rattle.graph_run.proofs.IndexLemmas.{index_below, indices_differ}
use Rattle.graph_run.proofs.SlotLemmas.{HasSlots, has_slot, home_at, one_home, planned_slots}
use Rattle.graph_run.proofs.SolutionStepsImages.{cells, client_outside, clients, virtual, virtual_or}

module _ {objects : List NamedObject} {v : Verified} {s : Schedule} (g : CanRunBy objects v s) where
  abbrev pub outs : List VirtualOutput
  outs = v.virtual_outputs

  abbrev pub slots : ℕ
  slots = slot_total g.slots

  abbrev pub plane_at : Reference → ℕ
  plane_at = graph_plane v.steps v.virtual_outputs g.slots

  planned : HasSlots v.steps outs g.slots
  planned = planned_slots v.steps outs g.slots g.plan

  slot_below : (o : VirtualOutput) → In o outs → slot_index_of g.slots o < slots
  slot_below o i =
      let h = has_slot v.steps outs g.slots planned o i in
      let at = home_at v.steps outs g.slots planned o h in grind (arith, h, at)

  -- ---- virtual images

  pub record IsVirtual (c : Reference) : Type 0 where
    pub image : VirtualOutput
    pub inside : In image outs
    pub cell : image.cell ≡ c
    pub found : virtual_output outs c ≡ Some image

  pub virtual_found : (c : Reference) → In c (virtual g) → IsVirtual c
  virtual_found c i = elim (find_cases (λ (o : VirtualOutput). same_reference o.cell c) outs) [
    | inl found ↦ record {
      image = found.0;
      inside = found.2;
      cell = same_cell-true found.0.cell c found.3;
      found = found.1;
    }
    | inr none ↦
        let o = In-from_map (λ (o : VirtualOutput). o.cell) c outs i in
        let absent : same_reference c c ≡ false =
        ap (λ (d : Reference). same_reference d c) o.2 ∙ none.1 o.0 o.1 in
        absurd (let here = same_cell-refl c in cc)
  ]

  pub virtual_plane : (c : Reference) (i : IsVirtual c) → plane_at c ≡ slot_index_of g.slots i.image
  virtual_plane c i = rw i.found refl

  pub virtual_below : (c : Reference) → In c (virtual g) → plane_at c < slots
  virtual_below c i =
      let f = virtual_found c i in rw (virtual_plane c f) (slot_below f.image f.inside)

  pub virtual_desc : (c : Reference) (i : IsVirtual c)
      → virtual_description outs c ≡ Some i.image.desc
  virtual_desc c i = ap (option_map (λ (o : VirtualOutput). o.desc)) i.found

  -- ---- the client's images

  client_none : (c : Reference) → In c (clients g) → virtual_output outs c ≡ None
  client_none c i = elim (find_cases (λ (o : VirtualOutput). same_reference o.cell c) outs) [
    | inl found ↦
        let same = same_cell-true found.0.cell c found.3 in
        absurd
        (client_outside g c i
        (subst (λ (d : Reference). In d (virtual g)) same (in_virtual found.0 found.2)))
    | inr none ↦ none.0
  ]
    where
      in_virtual : (o : VirtualOutput) → In o outs → In o.cell (virtual g)
      in_virtual o i = In-map (λ (o : VirtualOutput). o.cell) o outs i

  pub client_at : (c : Reference) → In c (clients g) → plane_at c ≡ slots + index_of (clients g) c
  client_at c i = rw (client_none c i) refl

  pub client_desc : (c : Reference) → In c (clients g) → virtual_description outs c ≡ None
  client_desc c i = ap (option_map (λ (o : VirtualOutput). o.desc)) (client_none c i)

  pub client_from : (c : Reference) → In c (clients g) → slots ≤ plane_at c
  client_from c i = let at = client_at c i in omega arith

  pub client_below : (c : Reference) → In c (clients g) → plane_at c < slots + length (clients g)
  client_below c i =
      let at = client_at c i in let below = index_below (clients g) c i in omega arith

  pub plane_below : (c : Reference) → In c (cells g) → plane_at c < slots + length (clients g)
  plane_below c i = elim (virtual_or g c i) [
    | inl j ↦ (let below = virtual_below c j in omega arith)
    | inr j ↦ client_below c j
  ]

  -- ---- images with one plane

  -- a client's image shares its plane with no other
  pub client_alone : (c d : Reference)
      → In c (cells g)
      → In d (clients g)
      → plane_at c ≡ plane_at d
      → c ≡ d
  client_alone c d i j same = elim (virtual_or g c i) [
    | inl k ↦ absurd (let low = virtual_below c k in let from = client_from d j in omega arith)
    | inr k ↦ elim (same_or_not c d) [
      | inl e ↦ e
      | inr other ↦
          absurd
          (indices_differ (clients g) c d k j other
          (let a = client_at c k in let b = client_at d j in omega arith))
    ]
  ]
    where
      same_or_not : (a b : Reference) → (a ≡ b) ⊎ (a ≢ b)
      same_or_not a b = elim (cases_Bool (same_reference a b)) [
        | inl e ↦ inl (same_cell-true a b e)
        | inr e ↦
            inr
            (λ same. let here = same_cell-refl b in let absent = ap
            (λ (x : Reference). same_reference x b) (sym same) ∙ e in cc)
      ]

  -- a node that writes one virtual image of a slot leaves no other in use
  pub virtual_alone : (before after : List Node) (n : Node)
      → v.steps ≡ before ++ n ∷ after
      → (c d : Reference)
      → In c (virtual g)
      → In d (virtual g)
      → In c (outputs n)
      → (is_written before d || writes n d) ≡ true
      → is_node_operand (n ∷ after) d ≡ true
      → plane_at d ≡ plane_at c
      → d ≡ c
  virtual_alone before after n parts c d i j output written used same =
      let a = virtual_found c i in
      let b = virtual_found d j in
      let one_slot : slot_index_of g.slots b.image ≡ slot_index_of g.slots a.image =
      sym (virtual_plane d b) ∙ same ∙ virtual_plane c a in
      let home = one_home v.steps outs g.slots planned b.image a.image b.inside a.inside one_slot in
      let one : b.image ≡ a.image =
      one_when_taken before after n outs g.slots.slot_of
      (subst (λ (l : List Node). IsValid l outs g.slots.slot_of) parts g.plan.valid) a.image
      b.image a.inside b.inside home.0
      (ap (writes n) a.cell ∙ same-from_In c (outputs n) output)
      (ap (λ (x : Reference). is_written before x || writes n x) b.cell ∙ written)
      (ap (is_node_operand (n ∷ after)) b.cell ∙ used) home.1 in
      sym b.cell ∙ ap (λ (o : VirtualOutput). o.cell) one ∙ a.cell
