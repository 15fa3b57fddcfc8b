-- The plan of a verified graph.
use Rattle.std.proofs.Common.{◌≡◌, Bool, false, List, refl, ◌∙◌, ap, subst, is_some, ◌&&◌, map-id}
use Rattle.buffer_plan.proofs.Common.{filter, flat_map, list_any, and_from, Format, U8, S16, U32, Node, Reference, same_reference, outputs, VirtualOutput, writes, is_written, has_twice, In, same-from_In, same_cell-true, same_cell-is, In-filter, In-from_filter, In-from_flat_map, In-from_any, any-from_In, Plan, places_in, plan_view, IsPlan}
use Rattle.std.proofs.lemmas.Bool.{and_parts}
use Rattle.graph_verify.specs.declared.operand.Operand.{Operand}
use Rattle.graph_verify.specs.declared.verified.Verified.{Verified}
use Rattle.graph_verify.specs.Operand.{is_virtual}
use Rattle.graph_verify.specs.Verdict.{virtual_outputs}
use Rattle.graph_verify.specs.Verified.{IsVerified, IsVerifiedGraph}
use Rattle.graph_verify.proofs.LinkLemmas.{same_tests, two_writers-permutation, In-outputs}
use Rattle.graph_verify.proofs.MemberLemmas.{any-map, AllIn-permutation, AllIn-permutation_back}
use Rattle.buffer_plan.specs.Places.{IsPlacedFor}
use Rattle.buffer_plan.proofs.OnceLemmas.{once-filter}
use Rattle.buffer_plan.proofs.PlanLemmas.{is_plan, slots_given}
use Rattle.buffer_plan.proofs.RisingLemmas.{rising-lives}

-- what holds of each format
of_each : (P : Format → Type 0) → P U8 → P S16 → P U32 → (f : Format) → P f
of_each P a b c U8 = a
of_each P a b c S16 = b
of_each P a b c U32 = c

pub once_cells : (p : Reference → Bool) (cs : List Reference)
    → has_twice cs ≡ false
    → has_twice (filter p cs) ≡ false
once_cells p cs once =
    rw (← map-id (filter p cs)) (once-filter (λ (c : Reference). c) p cs (rw (map-id cs) once))

-- a cell is among the images exactly where it is virtual and a node writes it
images_are : (is : Reference → Operand) (nodes : List Node) (v : Verified)
    → IsVerified is nodes v
    → (c : Reference)
    → list_any (λ (o : VirtualOutput). same_reference o.cell c) v.virtual_outputs
    ≡ (is_virtual (is c) && is_written nodes c)
images_are is nodes v h c =
    let virtual = λ (d : Reference). is_virtual (is d) in
    let cells :
    list_any (λ (o : VirtualOutput). same_reference o.cell c) v.virtual_outputs
    ≡ list_any (λ d. same_reference d c) (virtual_outputs is v.steps) =
    any-map (λ (o : VirtualOutput). o.cell) (λ d. same_reference d c) v.virtual_outputs
    ∙ ap (list_any (λ d. same_reference d c)) h.cells in
    cells
    ∙ same_tests (list_any (λ d. same_reference d c) (virtual_outputs is v.steps))
    (is_virtual (is c) && is_written nodes c)
    (λ some.
    let d = In-from_any (λ d. same_reference d c) (virtual_outputs is v.steps) some in
    let there = subst (λ e. In e (virtual_outputs is v.steps)) (same_cell-true d.0 c d.2) d.1 in
    let kept = In-from_filter virtual c (flat_map outputs v.steps) there in
    let writer = In-from_flat_map outputs c v.steps kept.0 in
    let node = AllIn-permutation_back nodes v.steps h.order.same_nodes writer.0 writer.1 in
    and_from (is_virtual (is c)) (is_written nodes c) kept.1
    (any-from_In (λ n. writes n c) writer.0 nodes node
    (same-from_In c (outputs writer.0) writer.2)))
    (λ both.
    let parts = and_parts (is_virtual (is c)) (is_written nodes c) both in
    let writer = In-from_any (λ n. writes n c) nodes parts.1 in
    let step = AllIn-permutation nodes v.steps h.order.same_nodes writer.0 writer.1 in
    let there =
    In-filter virtual c (flat_map outputs v.steps) (In-outputs writer.0 c v.steps step writer.2)
    parts.0 in
    any-from_In (λ d. same_reference d c) c (virtual_outputs is v.steps) there
    (same_cell-is c c refl))

module _ (v : Verified) (p : Plan) (u8s : IsPlacedFor v.steps v.virtual_outputs U8 p.u8s)
    (s16s : IsPlacedFor v.steps v.virtual_outputs S16 p.s16s)
    (u32s : IsPlacedFor v.steps v.virtual_outputs U32 p.u32s)
  where
    placed : (f : Format) → IsPlacedFor v.steps v.virtual_outputs f (places_in p f)
    placed = of_each (λ f. IsPlacedFor v.steps v.virtual_outputs f (places_in p f)) u8s s16s u32s

    pub planned : IsVerifiedGraph v → IsPlan v.steps v.virtual_outputs (plan_view p)
    planned g =
        let one =
        two_writers-permutation g.nodes v.steps g.verified.order.same_nodes g.one_writer in
        let once =
        ap has_twice g.verified.cells
        ∙ once_cells (λ c. is_virtual (g.is c)) (flat_map outputs v.steps) one in
        is_plan v.steps v.virtual_outputs p (λ f. (placed f).lives) (λ f. (placed f).are_lives)
        (λ f. (placed f).placed) once
        (λ f. rising-lives (λ c. is_virtual (g.is c)) v.steps v.virtual_outputs f
        (placed f).lives g.verified.cells once (placed f).are_lives)

    pub slots_of : (is : Reference → Operand) (nodes : List Node)
        → IsVerified is nodes v
        → (c : Reference)
        → is_some ((plan_view p).slot_of c) ≡ (is_virtual (is c) && is_written nodes c)
    slots_of is nodes h c =
        slots_given v.steps v.virtual_outputs p (λ f. (placed f).lives)
        (λ f. (placed f).are_lives) (λ f. (placed f).placed) c
        ∙ images_are is nodes v h c
