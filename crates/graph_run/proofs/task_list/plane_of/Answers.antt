use Rattle.std.proofs.Common.{sym, ◌∙◌, arith}
use Rattle.graph_run.proofs.Common.{plan_view}
use Rattle.graph_run.proofs.IndexLemmas.{client_fits, slot_fits}
use Rattle.graph_run.proofs.task_list.plane_of.Goals as goal

pub slot_of-requires : goal.slot_of-requires
slot_of-requires c =
    let b = c.args.binding.now in
    slot_fits (plan_view b.plan.now) b.images.now b.slots b.clients.now c.requires c.args.cell
    c.in-Some.image (sym c.virtual_output.ensures ∙ c.in-Some.is)

pub overflow_add-result : goal.overflow_add-result
overflow_add-result c =
    let b = c.args.binding.now in
    omega (
      arith,
      client_fits (plan_view b.plan.now) b.images.now b.slots b.clients.now c.requires c.args.cell,
      c.index_of.ensures,
    )
