use Rattle.std.proofs.Common.{◌≡◌, List, arith}
use Rattle.graph_run.proofs.Common.{Format, NamedObject, PlanView, Verified, plan_view}
use Rattle.graph_run.specs.declared.schedule.Schedule.{Schedule}
use Rattle.graph_run.specs.Schedule.{IsSchedule}
use Rattle.graph_run.specs.Blocks.{band_plan, capacity_count}
use Rattle.graph_run.proofs.BlockLemmas.{planned_count}
use Rattle.graph_run.proofs.runs.run.Goals as goal

-- as many capacities of a format as the plan has slots
capacities_planned : (objects : List NamedObject) (v : Verified) (p : PlanView) (s : Schedule)
    → IsSchedule objects v p s
    → (f : Format)
    → capacity_count s.capacities.items f ≡ p.slot_count f
capacities_planned objects v p s h f =
    grind (arith, planned_count (band_plan s.size s.tasks.items p) f)

pub returns-clause-adds : goal.returns-clause-adds
returns-clause-adds c =
    grind (
      arith,
      capacities_planned c.args.table.now.objects c.args.verified.now
          (plan_view c.args.plan.now) c.in_ok-schedule.schedule c.in_ok-schedule.ensures,
    )

pub returns-clause-free : goal.returns-clause-free
returns-clause-free c =
    grind (
      arith,
      capacities_planned c.args.table.now.objects c.args.verified.now
          (plan_view c.args.plan.now) c.in_ok-schedule.schedule c.in_ok-schedule.ensures,
      c.run_scheduled.ensures.free,
    )
