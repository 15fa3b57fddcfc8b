-- Schedules of verified graphs.
use Rattle.std.proofs.Common.{◌≡◌, ◌<◌, ◌≤◌, ◌+◌, ◌^◌, ℕ, All, List, [], ◌∷◌, length, map, refl, sym, ap, subst, ◌∙◌, inl, inr, arith, Option}
use Rattle.std.proofs.lemmas.List.{length-append, length-map}
use Rattle.graph_run.proofs.Common.{Description, In, In-append, In-from_map, IsPlan, Node, PlanView, Reference, VirtualOutput, parameters, same_cell-refl, same_reference, slot_index_of, NamedObject}
use Rattle.graph_verify.proofs.KnownLemmas.{find_cases}
use Rattle.graph_steps.specs.Halos.{NamesBelow, without_halo}
use Rattle.graph_steps.specs.declared.step.Step.{Step}
use Rattle.graph_steps.specs.declared.step.Task.{Task}
use Rattle.graph_steps.specs.declared.step.Task.TheVariants.{Reduce, Write}
use Rattle.graph_steps.specs.Program.{IsStepOf}
use Rattle.graph_steps.specs.Steps.{ReadsPlane}
use Rattle.graph_run.specs.Cells.{node_images}
use Rattle.graph_run.specs.Program.{radius_of}
use Rattle.graph_run.specs.Slots.{slot_total}
use Rattle.graph_run.specs.Tasks.{HasIndices, client_cells, virtual_description, graph_cells, graph_plane, graph_tasks, plane_of, step_for, tally_after, tasks_from, tasks_of}
use Rattle.graph_run.proofs.BlockLemmas.{slots_total}
use Rattle.graph_run.proofs.IndexLemmas.{cells_parts, index_below}
use Rattle.graph_run.proofs.LinkLaws.{All-from_In}
use Rattle.graph_run.proofs.ProgramLemmas.{all_named, image_named, read_cell, step_node}
use Rattle.graph_run.proofs.SlotLemmas.{has_slot, home_at, planned_slots}
use Rattle.graph_run.proofs.TaskLemmas.{node_keeps}

-- the cells are the virtual images and the client's
pub cells_counted : (steps : List Node) (outs : List VirtualOutput)
    → length (graph_cells steps outs) ≡ length outs + length (client_cells steps outs)
cells_counted steps outs =
    omega (
      arith,
      ap length (cells_parts steps outs),
      length-append (map (λ (o : VirtualOutput). o.cell) outs) (client_cells steps outs),
      length-map outs (λ (o : VirtualOutput). o.cell),
    )

pub virtuals_below : (steps : List Node) (outs : List VirtualOutput)
    → length outs ≤ length (graph_cells steps outs)
virtuals_below steps outs = omega (arith, cells_counted steps outs)

-- the tasks of nodes have no halo
pub tasks_bare :
    (plane : Reference → ℕ) (describes : Reference → Option Description) (radius : Node → ℕ)
    (nodes : List Node) (at tally : ℕ)
    → map without_halo (tasks_from plane describes radius at tally nodes)
    ≡ tasks_from plane describes radius at tally nodes
tasks_bare plane describes radius [] at tally = refl
tasks_bare plane describes radius (n ∷ nodes) at tally =
    node_keeps plane describes radius (λ left tasks. map without_halo tasks ≡ tasks) at tally n
    (parameters n.function).output
    []
    (tasks_from plane describes radius (at + 1)
    (tally_after tally (parameters n.function).output) nodes)
    (λ image which c e left later same. ap
    (λ (l : List Task). Write (step_for plane describes radius at n which c) ∷ l) same)
    (λ other same. ap
    (λ (l : List Task). Reduce (record { input = plane n.in1; tally = tally }) ∷ l) same)
    (tasks_bare plane describes radius nodes (at + 1)
    (tally_after tally (parameters n.function).output))

-- ---- the planes that tasks name

step_in : (s : Step) (tasks : List Task) → In (Write s) tasks → IsStepOf s tasks
step_in s [] i = i
step_in s (Write t ∷ tasks) (inl e) = inl (cc)
step_in s (Write t ∷ tasks) (inr i) = inr (step_in s tasks i)
step_in s (Reduce r ∷ tasks) (inl e) = absurd (cc)
step_in s (Reduce r ∷ tasks) (inr i) = step_in s tasks i

module _ (steps : List Node) (outs : List VirtualOutput) (p : PlanView)
    (plan : IsPlan steps outs p) where
  abbrev count : ℕ
  count = slot_total p + length (client_cells steps outs)

  pub slot_low : (o : VirtualOutput) → In o outs → slot_index_of p o < slot_total p
  slot_low o i =
      let planned = planned_slots steps outs p plan in
      let h = has_slot steps outs p planned o i in
      let at = home_at steps outs p planned o h in
      grind (arith, h, at)

  plane_low : (c : Reference) → In c (graph_cells steps outs) → graph_plane steps outs p c < count
  plane_low c i = elim (find_cases (λ (o : VirtualOutput). same_reference o.cell c) outs) [
    | inl found ↦ (let low = slot_low found.0 found.2 in rw found.1 (omega arith))
    | inr none ↦
        rw none.0
        (elim
        (In-append c (map (λ (o : VirtualOutput). o.cell) outs) (client_cells steps outs)
        (subst (In c) (cells_parts steps outs) i)) [
          | inl virtual ↦
              let o = In-from_map (λ (o : VirtualOutput). o.cell) c outs virtual in
              let absent = ap (λ (d : Reference). same_reference d c) o.2 ∙ none.1 o.0 o.1 in
              absurd (let here = same_cell-refl c in cc)
          | inr client ↦ (let below = index_below (client_cells steps outs) c client in omega arith)
        ])
  ]

  pub tasks_low : (radius : Node → ℕ) → All (NamesBelow count) (graph_tasks steps outs p radius)
  tasks_low radius = All-from_In (NamesBelow count) (graph_tasks steps outs p radius) each
    where
      named : (n : Node)
          → In n steps
          → (c : Reference)
          → In c (node_images n)
          → In c (graph_cells steps outs)
      named = all_named (map (λ (o : VirtualOutput). o.cell) outs) steps

      each : (t : Task) → In t (graph_tasks steps outs p radius) → NamesBelow count t
      each (Reduce r) i = tt
      each (Write s) i =
          let of =
          step_node (graph_plane steps outs p) (virtual_description outs) radius steps 0 0 s
          (step_in s (graph_tasks steps outs p radius) i) in (
            subst (λ (x : Step). x.output < count) (sym of.is)
                (plane_low of.cell
                (named of.node of.inside of.cell
                (image_named of.node of.cell of.image of.written))),
            (λ k read.
                let x =
                read_cell (graph_plane steps outs p) (virtual_description outs) radius of.node
                of.at of.which of.cell k (subst (λ (y : Step). ReadsPlane y k) of.is read) in
                subst (λ m. m < count) (sym x.3) (plane_low x.0 (named of.node of.inside x.0 x.2))),
          )

  -- there are at most as many planes as cells
  pub planes_fit : count ≤ length (graph_cells steps outs)
  planes_fit = omega (arith, slots_total steps outs p plan, cells_counted steps outs)

  pub indices_fit : length (graph_cells steps outs) < 2 ^ 64
      → HasIndices p outs (slot_total p) (client_cells steps outs)
  indices_fit few = (
    (λ o i. let low = slot_low o i in let most = planes_fit in omega arith),
    (let most = planes_fit in omega arith),
  )

-- the tasks of a graph, of lists that are equal to the graph's
pub same_tasks :
    (objects : List NamedObject) (high : ℕ) (p : PlanView) (images outs : List VirtualOutput)
    (slots : ℕ) (clients : List Reference) (nodes steps : List Node) (tasks : List Task)
    → images ≡ outs
    → slots ≡ slot_total p
    → clients ≡ client_cells steps outs
    → nodes ≡ steps
    → tasks
    ≡ tasks_of (plane_of p images slots clients) (virtual_description images)
    (radius_of objects high) nodes
    → tasks ≡ graph_tasks steps outs p (radius_of objects high)
same_tasks objects high p images outs slots clients nodes steps tasks images_are slots_are
    clients_are nodes_are are =
    are
    ∙ ap
    (λ (i : List VirtualOutput). tasks_of (plane_of p i slots clients) (virtual_description i)
    (radius_of objects high) nodes)
    images_are
    ∙ ap
    (λ (n : ℕ). tasks_of (plane_of p outs n clients) (virtual_description outs)
    (radius_of objects high) nodes)
    slots_are
    ∙ ap
    (λ (l : List Reference). tasks_of (plane_of p outs (slot_total p) l)
    (virtual_description outs) (radius_of objects high) nodes)
    clients_are
    ∙ ap
    (λ (l : List Node). tasks_of (graph_plane steps outs p) (virtual_description outs)
    (radius_of objects high) l)
    nodes_are
