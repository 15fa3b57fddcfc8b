use Rattle.std.proofs.Common.{◌≡◌, Some, None, Ok, Err, rules, arith, subst, sym, ap}
use Rattle.client_contexts.proofs.Common.{option_map, GraphValue, nodes_of, object_kind, blocks_in, Context, graph_under, IsReady, graph_named, graph_verdict}
use Rattle.buffer_plan.specs.Places.{plan_view}
use Rattle.graph_run.specs.Schedule.{IsSchedule}
use Rattle.client_model.proofs.DelayStepLaws.{aged_under_last}
use Rattle.client_model.proofs.OutcomeLaws.{Keeps}
use Rattle.client_laws.proofs.RunStepLaws.{process_graph_keeps}
use Rattle.client_contexts.proofs.BlockLemmas.{lasting_blocks}
use Rattle.client_contexts.proofs.ReadyLemmas.{fails_to_run, graph_left, aged_to, kept_runs, kept_there, kept_after_run}
use Rattle.client_contexts.proofs.graphs.process_graph.Goals as goal
use Rattle.client_contexts.proofs.graphs.process_graph.Goals.{In-Some}

pub returns-in_err-verify_graph-clause-comes : goal.returns-in_err-verify_graph-clause-comes
returns-in_err-verify_graph-clause-comes c =
    let fault = c.in_err-verify_graph.field-0.0 in
    let same : c.from_residual.result ≡ Err fault = search rules in
    fails_to_run c.args.limits c.args.table.now c.args.graph fault c.from_residual.result
    c.in_err-verify_graph.ensures.comes same

-- the graph of the name, whose nodes what is kept of it runs
kept_graph : (c : In-Some)
    → (graph : GraphValue)
    × (graph_named c.args.table.now.objects c.args.graph ≡ Ok graph)
    × (graph_verdict c.args.limits c.args.table.now.objects graph ≡ None)
    × IsReady c.args.table.now.objects (nodes_of graph) c.in-Some.kept.now.verified
    × IsSchedule c.args.table.now.objects c.in-Some.kept.now.verified
    (plan_view c.in-Some.kept.now.plan) c.in-Some.kept.now.schedule
kept_graph c =
    let t = c.args.table.now in
    kept_runs c.args.limits t c.args.graph c.requires.context
    (c.in_ok-verify_graph.field-0, Some t) c.in_ok-verify_graph.ensures.comes.done
    c.in-Some.kept.now
    c.verify_graph.new.kept.entries c.verify_graph.ensures.kept (sym c.in-Some.ensures.value)

pub run_scheduled-requires-clause-ready : goal.run_scheduled-requires-clause-ready
run_scheduled-requires-clause-ready c =
    let graph = kept_graph (goal.at.run_scheduled-requires-clause-ready c).In-Some in
    (nodes_of graph.0, graph.3)

pub run_scheduled-requires-clause-schedule : goal.run_scheduled-requires-clause-schedule
run_scheduled-requires-clause-schedule c =
    let k = c.in-Some.kept.now in
    let kept =
    kept_there c.args.table.now c.args.graph k c.verify_graph.new.kept.entries
    c.verify_graph.ensures.kept (sym c.in-Some.ensures.value) in (
      plan_view k.plan,
      kept.plan,
      (kept_graph (goal.at.run_scheduled-requires-clause-schedule c).In-Some).4,
    )

pub age_registered-requires : goal.age_registered-requires
age_registered-requires c =
    let t = c.args.table.now in
    let graph = kept_graph (goal.at.age_registered-requires c).In-Some in
    ap (option_map object_kind)
    (graph_left c.args.limits t c.args.graph c.requires.context graph.0
    c.run_scheduled.new.table graph.1 graph.2
    (c.in_ok-run_scheduled.ensures.value (nodes_of graph.0) graph.3))

pub returns-clause-comes : goal.returns-clause-comes
returns-clause-comes c =
    let t = c.args.table.now in
    let graph = kept_graph (goal.at.returns-clause-comes c).In-Some in
    let done =
    aged_to c.args.limits t c.args.graph c.requires.context graph.0 c.run_scheduled.new.table
    c.age_registered.new.self graph.1 graph.2
    (c.in_ok-run_scheduled.ensures.value (nodes_of graph.0) graph.3)
    c.age_registered.ensures in
    record { done = done; refused = tt; unchanged = tt }

pub returns-clause-within_limits : goal.returns-clause-within_limits
returns-clause-within_limits c =
    (subst (Keeps c.args.limits c.args.table.now) (returns-clause-comes c).done
    (process_graph_keeps c.args.limits c.args.table.now c.args.graph c.requires.context)).keeps

pub returns-clause-balances : goal.returns-clause-balances
returns-clause-balances c = λ format.
    let lasts = c.in_ok-run_scheduled.ensures.lasts in
    let ran = c.run_scheduled.new.table.objects in
    omega (
      arith,
      c.in_ok-run_scheduled.ensures.lent format,
      lasting_blocks c.args.table.now.objects ran lasts format,
      ap (λ (t : Context). blocks_in t.objects format) c.age_registered.ensures,
      lasting_blocks ran _
          (aged_under_last (graph_under ran c.args.graph).delays ran lasts.objects) format,
    )

pub returns-clause-kept : goal.returns-clause-kept
returns-clause-kept c =
    kept_after_run c.args.limits c.args.table.now c.age_registered.new.self c.args.graph
    c.requires.context c.ranges.graph.fits (returns-clause-comes c).done
    c.verify_graph.new.kept.entries
    c.verify_graph.ensures.kept
