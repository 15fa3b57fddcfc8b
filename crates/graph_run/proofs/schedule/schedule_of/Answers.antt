use Rattle.std.proofs.Common.{◌≡◌, ◌≤◌, ◌<◌, ◌^◌, List, length, drop, map, ap, sym, subst, ◌∙◌, arith, All}
use Rattle.graph_run.proofs.Common.{Reference, VirtualOutput, image_held, planned_capacities, plan_view}
use Rattle.graph_steps.specs.declared.step.Task.{Task}
use Rattle.graph_steps.specs.Halos.{without_halo}
use Rattle.graph_steps.specs.Program.{AreEnough}
use Rattle.graph_run.specs.Bind.{HoldImages}
use Rattle.graph_run.specs.Blocks.{band_plan}
use Rattle.graph_run.specs.Program.{AddOnce, radius_of}
use Rattle.graph_run.specs.Results.{tally_cells}
use Rattle.graph_run.specs.Tasks.{virtual_description, graph_cells, graph_plane}
use Rattle.graph_run.proofs.BlockLemmas.{written_back}
use Rattle.graph_run.proofs.ReadyLemmas.{clients_hold}
use Rattle.graph_run.proofs.ScheduleLemmas.{indices_fit, planes_fit, same_tasks, tasks_bare, tasks_low, virtuals_below}
use Rattle.graph_run.proofs.schedule.schedule_of.Goals as goal

-- references to the client's images, as a part of the cells
clients_taken : (outs images : List VirtualOutput) (cells all clients : List Reference)
    → images ≡ outs
    → all ≡ cells
    → clients ≡ drop (length images) all
    → clients ≡ drop (length outs) cells
clients_taken outs images cells all clients images_are all_are are =
    are
    ∙ ap (λ (l : List VirtualOutput). drop (length l) all) images_are
    ∙ ap (drop (length outs)) all_are

pub clients_of-clients-requires : goal.clients_of-clients-requires
clients_of-clients-requires c =
    let v = c.args.verified.now in
    omega (
      arith,
      ap length c.virtual_outputs-images.ensures,
      ap length c.deref.ensures.value,
      ap length c.in_ok-cells.ensures,
      virtuals_below v.steps v.virtual_outputs,
    )

pub high_of-high-requires : goal.high_of-high-requires
high_of-high-requires c =
    let v = c.args.verified.now in
    let clients =
    clients_taken v.virtual_outputs _ (graph_cells v.steps v.virtual_outputs) _ _
    c.virtual_outputs-images.ensures (c.deref.ensures.value ∙ c.in_ok-cells.ensures)
    c.clients_of-clients.ensures in
    subst (HoldImages c.args.table.now.objects) (sym clients)
    (clients_hold c.args.table.now.objects c.requires.ready.0 v c.requires.ready.1
    (plan_view c.args.plan.now) c.requires.plan)

pub slot_total-requires : goal.slot_total-requires
slot_total-requires c =
    let v = c.args.verified.now in
    omega (
      arith,
      planes_fit v.steps v.virtual_outputs (plan_view c.args.plan.now) c.requires.plan,
      ap length c.in_ok-cells.ensures,
      c.in_ok-cells.cells.ok,
      c.in_ok-cells.cells.small,
    )

pub tasks_of-requires : goal.tasks_of-requires
tasks_of-requires c =
    let v = c.args.verified.now in
    let p = plan_view c.args.plan.now in
    let clients =
    clients_taken v.virtual_outputs _ (graph_cells v.steps v.virtual_outputs) _ _
    c.virtual_outputs-images.ensures (c.deref.ensures.value ∙ c.in_ok-cells.ensures)
    c.clients_of-clients.ensures in
    let few : length (graph_cells v.steps v.virtual_outputs) < 2 ^ 64 =
    omega (
      arith,
      ap length c.in_ok-cells.ensures,
      c.in_ok-cells.cells.ok,
      c.in_ok-cells.cells.small,
    ) in
    rw (
      c.virtual_outputs-images.ensures,
      c.slot_total.ensures,
      clients,
    ) (indices_fit v.steps v.virtual_outputs p c.requires.plan few)

pub overflow_add-count : goal.overflow_add-count
overflow_add-count c =
    let v = c.args.verified.now in
    let clients =
    clients_taken v.virtual_outputs _ (graph_cells v.steps v.virtual_outputs) _ _
    c.virtual_outputs-images.ensures (c.deref.ensures.value ∙ c.in_ok-cells.ensures)
    c.clients_of-clients.ensures in
    omega (
      arith,
      planes_fit v.steps v.virtual_outputs (plan_view c.args.plan.now) c.requires.plan,
      ap length c.in_ok-cells.ensures,
      c.in_ok-cells.cells.ok,
      c.in_ok-cells.cells.small,
      c.slot_total.ensures,
      ap length clients,
    )

pub find_all_halos-requires : goal.find_all_halos-requires
find_all_halos-requires c =
    let v = c.args.verified.now in
    let p = plan_view c.args.plan.now in
    let clients =
    clients_taken v.virtual_outputs _ (graph_cells v.steps v.virtual_outputs) _ _
    c.virtual_outputs-images.ensures (c.deref.ensures.value ∙ c.in_ok-cells.ensures)
    c.clients_of-clients.ensures in
    let tasks =
    c.as_mut_slice.ensures.value
    ∙ same_tasks c.args.table.now.objects c.high_of-high.result p _ v.virtual_outputs _ _ _
    v.steps _ c.virtual_outputs-images.ensures c.slot_total.ensures clients
    c.steps.ensures.steps c.in_ok-tasks.ensures in
    rw (tasks, c.slot_total.ensures, clients)
    (tasks_low v.steps v.virtual_outputs p c.requires.plan
    (radius_of c.args.table.now.objects c.high_of-high.result))

pub returns : goal.returns
returns c =
    let v = c.args.verified.now in
    let p = plan_view c.args.plan.now in
    let outs = v.virtual_outputs in
    let objects = c.args.table.now.objects in
    let high = c.high_of-high.result in
    let size = c.band_size-size.result in
    let tasks = c.find_all_halos.new.tasks in
    let clients =
    clients_taken v.virtual_outputs _ (graph_cells v.steps v.virtual_outputs) _ _
    c.virtual_outputs-images.ensures (c.deref.ensures.value ∙ c.in_ok-cells.ensures)
    c.clients_of-clients.ensures in
    let given =
    same_tasks c.args.table.now.objects c.high_of-high.result p _ v.virtual_outputs _ _ _
    v.steps _ c.virtual_outputs-images.ensures c.slot_total.ensures clients
    c.steps.ensures.steps c.in_ok-tasks.ensures in
    let back =
    written_back c.in_ok-tasks.tasks.items tasks c.in_ok-tasks.tasks.len
    (omega (arith, c.find_all_halos.auto.tasks, ap length c.as_mut_slice.ensures.value))
    (omega (arith, c.in_ok-tasks.tasks.ok)) in
    record {
      cells = c.in_ok-cells.ensures;
      tasks =
          ap (map without_halo) back
          ∙ c.in_ok-needs.ensures.same
          ∙ ap (map without_halo) (c.as_mut_slice.ensures.value ∙ given)
          ∙ tasks_bare (graph_plane v.steps outs p) (virtual_description outs)
          (radius_of objects high) v.steps 0 0;
      enough = subst (AreEnough high) (sym back) c.in_ok-needs.ensures.enough;
      some = c.high_of-high.ensures.some;
      forward = c.band_size-size.ensures.forward;
      capacities =
          c.in_ok-capacities.ensures
          ∙ ap (λ (l : List Task). planned_capacities (band_plan size l p)) c.deref-4.ensures.value;
      once =
          subst (λ (l : List Task). AddOnce high size l) c.deref-2.ensures.value
          c.band_size-size.ensures.once;
      virtuals =
          subst (λ (l : List VirtualOutput). All (λ o. o.desc.height ≤ high) l)
          c.virtual_outputs-images.ensures c.high_of-high.ensures.virtuals;
      clients =
          subst (λ (l : List Reference). All (λ d. (image_held objects d).height ≤ high) l)
          clients c.high_of-high.ensures.clients;
      tally_cells = c.in_ok-tally_cells.ensures ∙ ap tally_cells c.steps-2.ensures.steps;
    }
