-- That no plan has fewer slots of a format than the peak.
use Rattle.std.proofs.Common.{◌≡◌, ℕ, ◌≤◌, ◌⊎◌, inl, inr, false, List, [], ◌∷◌, length, map, eqb, refl, ◌∙◌, ap, arith, Option, Some, None, ne_eqb, eqb-true, eq-eqb}
use Rattle.buffer_plan.proofs.Common.{list_any, or_parts, Format, Node, Reference, same_reference, same_format, VirtualOutput, has_twice, In, In-from_map, In-from_any, any-from_In, In-from_filter, is_live, PlanView, IsPlan, of_format, live_images, IsValid}
use Rattle.std.specs.Cmp.{nat_eq_equiv}
use Rattle.std.specs.List.{IsDistinct}
use Rattle.std.proofs.lemmas.List.{length-map}
use Rattle.std.proofs.lemmas.Map.Made.{length-le_from_is_member}
use Rattle.buffer_plan.specs.Slots.{AreSlotsOf}
use Rattle.buffer_plan.proofs.OnceLemmas.{once-filter, not_again}
use Rattle.buffer_plan.proofs.EachLemmas.{by_recursion-from_In}

-- images of different slots have distinct slots
distinct_slots : (slot : Reference → ℕ) (images : List VirtualOutput)
    → has_twice (map (λ o. o.cell) images) ≡ false
    → ((a b : VirtualOutput) → In a images → In b images → slot a.cell ≡ slot b.cell → a ≡ b)
    → IsDistinct eqb (map (λ (o : VirtualOutput). slot o.cell) images)
unfolding IsDistinct
distinct_slots slot [] once apart = tt
distinct_slots slot (o ∷ images) once apart =
    let both =
    or_parts (list_any (same_reference o.cell) (map (λ (z : VirtualOutput). z.cell) images))
    (has_twice (map (λ (z : VirtualOutput). z.cell) images)) once in (
      by_recursion-from_In (λ k. eqb (slot o.cell) k ≡ false)
          (map (λ (z : VirtualOutput). slot z.cell) images)
          (λ k i.
          let r = In-from_map (λ (z : VirtualOutput). slot z.cell) k images i in
          ne_eqb (slot o.cell) k
          (λ e. not_again (λ (z : VirtualOutput). z.cell) o r.0 images both.0 r.1
          (ap (λ (z : VirtualOutput). z.cell) (apart o r.0 (inl refl) (inr r.1) (e ∙ r.2))))),
      distinct_slots slot images both.1 (λ a b i j. apart a b (inr i) (inr j)),
    )

cases_option : (x : Option ℕ) → (x ≡ None) ⊎ ((k : ℕ) × (x ≡ Some k))
cases_option None = inl refl
cases_option (Some k) = inr (k, refl)

-- as many slots as images are live at a step
enough :
    (steps : List Node) (images : List VirtualOutput) (format : Format) (step : ℕ)
    (slot : Reference → ℕ) (slots : List ℕ)
    → has_twice (map (λ o. o.cell) images) ≡ false
    → IsValid steps images slot
    → AreSlotsOf slot format images slots
    → length (live_images steps images format step) ≤ length slots
enough steps images format step slot slots once valid has =
    let live = live_images steps images format step in
    let slot_at = λ (o : VirtualOutput). slot o.cell in
    let once' =
    once-filter (λ (o : VirtualOutput). o.cell)
    (λ (o : VirtualOutput). is_live steps o.cell step) (of_format format images)
    (once-filter (λ (o : VirtualOutput). o.cell)
    (λ (o : VirtualOutput). same_format o.desc.format format) images once)
    in
    let most =
    length-le_from_is_member nat_eq_equiv (map slot_at live) slots
    (distinct_slots slot live once' (valid format step)) (λ k h.
    let a = In-from_any (eqb k) (map slot_at live) h in
    let o = In-from_map slot_at a.0 live a.1 in
    let i =
    has o.0
    (In-from_filter (λ (z : VirtualOutput). is_live steps z.cell step) o.0
    (of_format format images) o.1).0
    in
    any-from_In (eqb k) (slot o.0.cell) slots i
    (eq-eqb k (slot o.0.cell) (eqb-true k a.0 a.2 ∙ o.2))) in
    omega (arith, most, length-map live slot_at)

pub least : (steps : List Node) (images : List VirtualOutput) (p : PlanView) (format : Format)
    → IsPlan steps images p
    → (slot : Reference → ℕ)
    → IsValid steps images slot
    → (slots : List ℕ) → AreSlotsOf slot format images slots → p.slot_count format ≤ length slots
least steps images p format plan slot valid slots has = elim (cases_option (p.peak_step format)) [
  | inl none ↦ omega (arith, (plan.peak format).none none)
  | inr some ↦
      omega (
        arith,
        ((plan.peak format).some some.0 some.1).there,
        enough steps images format some.0 slot slots plan.once valid has,
      )
]
