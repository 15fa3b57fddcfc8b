use Rattle.std.proofs.Common.{◌≡◌, ℕ, List, None, IsTrue, subst, sym, ap, ◌∙◌, All}
use Rattle.client_contexts.proofs.Common.{GraphValue, graph_value, nodes_of, is_image, verdict, IsVerified, operand_held, KeptGraph, IsKept, AreKept}
use Rattle.client_contexts.proofs.StandLemmas.{graph_firsts, graph_ready}
use Rattle.client_contexts.proofs.ReadyLemmas.{All-insert, allowed_verifies, found_kept, kept_verifies, verified_is_kept}
use Rattle.client_contexts.proofs.VerifiedLemmas.{stay_with_one}
use Rattle.client_contexts.proofs.graphs.verify_graph.Goals as goal

-- what is kept of the graph was found within as many work bytes
pub returns-then-is_kept-clause-comes : goal.returns-then-is_kept-clause-comes
returns-then-is_kept-clause-comes c =
    let t = c.args.table.now in
    let found =
    found_kept t c.args.graph c.work-work.result c.args.kept.now.entries c.requires.kept
    (c.is_kept.ensures.kept c.if-is_kept.true) in
    let done =
    kept_verifies c.requires.context.0 t c.args.graph c.in_ok-object.object.now
    c.requires.context.1 c.in_ok-object.ensures.ok c.args.limits found.0 found.2
    (found.1 ∙ c.work-work.ensures) in
    record { done = done; refused = tt; unchanged = tt }

pub verify_in-requires : goal.verify_in-requires
verify_in-requires c =
    subst
    (λ (g : GraphValue). All
    (λ n. IsTrue (is_image (operand_held c.args.table.now.objects n.in1))) (nodes_of g))
    (sym c.graph.ensures)
    (graph_firsts c.requires.context.0 c.args.table.now c.args.graph c.in_ok-object.object.now
    c.requires.context.1 c.in_ok-object.ensures.ok)

-- verified and planned, the graph can be scheduled
pub schedule_of-requires-clause-ready : goal.schedule_of-requires-clause-ready
schedule_of-requires-clause-ready c =
    let t = c.args.table.now in
    let x = c.in_ok-object.object.now in
    let v = c.in_ok-verified.verified in
    let verified =
    subst (λ (g : GraphValue). IsVerified (operand_held t.objects) (nodes_of g) v)
    c.graph.ensures c.in_ok-verified.ensures.verified in
    let allowed =
    ap (λ (g : GraphValue). verdict c.work-work.result (operand_held t.objects) (nodes_of g))
    (sym c.graph.ensures)
    ∙ c.in_ok-verified.ensures.ok in (
      nodes_of (graph_value x),
      graph_ready c.requires.context.0 t c.args.graph x c.requires.context.1
          c.in_ok-object.ensures.ok v c.work-work.result verified allowed,
    )

pub schedule_of-requires-clause-plan : goal.schedule_of-requires-clause-plan
schedule_of-requires-clause-plan c = c.in_ok-plan.ensures.plan

-- nothing refuses the graph
pub returns-in-Ok-clause-comes : goal.returns-in-Ok-clause-comes
returns-in-Ok-clause-comes c =
    let t = c.args.table.now in
    let x = c.in_ok-object.object.now in
    let allowed =
    ap (λ (g : GraphValue). verdict c.work-work.result (operand_held t.objects) (nodes_of g))
    (sym c.graph.ensures)
    ∙ c.in_ok-verified.ensures.ok in
    let done =
    allowed_verifies c.requires.context.0 t c.args.graph x c.requires.context.1
    c.in_ok-object.ensures.ok c.args.limits
    (subst
    (λ (work : ℕ). verdict work (operand_held t.objects) (nodes_of (graph_value x)) ≡ None)
    c.work-work.ensures allowed)
    in
    record { done = done; refused = tt; unchanged = tt }

-- how it runs comes to what is kept
pub returns-in-Ok-clause-kept : goal.returns-in-Ok-clause-kept
returns-in-Ok-clause-kept c =
    let t = c.args.table.now in
    let v = c.in_ok-verified.verified in
    let k : KeptGraph =
    record {
      work = c.work-work.result;
      verified = v;
      plan = c.in_ok-plan.plan;
      schedule = c.in_ok-schedule.schedule;
    } in
    let verified =
    subst (λ (g : GraphValue). IsVerified (operand_held t.objects) (nodes_of g) v)
    c.graph.ensures c.in_ok-verified.ensures.verified in
    let allowed =
    ap (λ (g : GraphValue). verdict c.work-work.result (operand_held t.objects) (nodes_of g))
    (sym c.graph.ensures)
    ∙ c.in_ok-verified.ensures.ok in
    subst (λ (entries : List (ℕ × KeptGraph)). AreKept t entries) (sym c.in-Ok.ensures.entries)
    (All-insert c.args.graph k (λ (e : ℕ × KeptGraph). IsKept t e.0 e.1) c.args.kept.now.entries
    c.requires.kept
    (verified_is_kept c.requires.context.0 t c.args.graph c.in_ok-object.object.now
    c.requires.context.1 c.in_ok-object.ensures.ok k verified allowed
    c.in_ok-plan.ensures.plan c.in_ok-schedule.ensures))

-- what was kept of other graphs is
pub returns-in-Ok-clause-stay : goal.returns-in-Ok-clause-stay
returns-in-Ok-clause-stay c =
    let k : KeptGraph =
    record {
      work = c.work-work.result;
      verified = c.in_ok-verified.verified;
      plan = c.in_ok-plan.plan;
      schedule = c.in_ok-schedule.schedule;
    } in
    stay_with_one c.args.limits.work c.args.graph k c.work-work.ensures c.args.kept.now.entries
    c.insert.new.self.entries c.in-Ok.ensures.updates.0
