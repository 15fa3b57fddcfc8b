use Rattle.std.proofs.Common.{◌≡◌, ◌≤◌, ◌++◌, drop}
use Rattle.graph_run.proofs.Common.{plan_view}
use Rattle.graph_run.specs.Program.{radius_of}
use Rattle.graph_run.specs.Tasks.{virtual_description, plane_of, tasks_from, tasks_of}
use Rattle.graph_run.proofs.task_list.tasks_of.Given as goal

abbrev pub invariant-loop-at : goal.invariant-loop-at
invariant-loop-at l =
    let plane =
    plane_of (plan_view l.binding.plan.now) l.binding.images.now l.binding.slots
    l.binding.clients.now in
    let describes = virtual_description l.binding.images.now in
    let radius = radius_of l.binding.table.now.objects l.binding.high in
    record {
      below : l.tally ≤ l.at;
      tasks :
          l.tasks.items ++ tasks_from plane describes radius l.at l.tally (drop l.at l.steps)
          ≡ tasks_of plane describes radius l.steps;
    }
