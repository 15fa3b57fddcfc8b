use Rattle.std.proofs.Common.{ℕ, inl, inr, ap, sym, subst, rules, ◌≡◌, ◌∙◌, false}
use Rattle.std.proofs.lemmas.List.Elements.{All-map}
use Rattle.client_contexts.proofs.Common.{reply_and_state, KeepsLimits, KeptGraph, AreKept, verified_in, VerifyGraph, ProcessGraph, ClientContext, ends_verification}
use Rattle.client_laws.proofs.RefusalLaws.{IsTold, outcome_told}
use Rattle.client_contexts.proofs.KeptGraphLemmas.{left_are_kept}
use Rattle.client_contexts.proofs.VerifiedLemmas.{ran_keeps, done_keeps, shown_still}
use Rattle.client_contexts.proofs.client.Client.answer.Goals as goal

pub invariant_of-self-in_err-reply-in_default : goal.invariant_of-self-in_err-reply-in_default
invariant_of-self-in_err-reply-in_default c =
    let s = c.self.inside in
    subst (λ t. AreKept t s.kept.entries)
    (sym c.in_err-reply-in_default.ensures.comes.unchanged) c.self.invariant

pub invariant_of-self-in_default : goal.invariant_of-self-in_default
invariant_of-self-in_default c =
    let s = c.self.inside in
    left_are_kept c.args.limits s.table c.answer.new.table c.args.request.now
    (subst (λ (o : ClientContext). KeepsLimits c.args.limits o.context) (sym c.self.view_is)
    c.requires.within_limits)
    c.prove_request.ensures
    (ap (λ o. (reply_and_state s.table o).1) c.in_ok-reply-in_default.ensures.comes.done)
    s.kept.entries c.forget.new.kept.entries c.self.invariant c.forget.ensures.forgotten
    c.forget.ensures.left

pub returns-in-VerifyGraph-clause-verified : goal.returns-in-VerifyGraph-clause-verified
returns-in-VerifyGraph-clause-verified c =
    let does = c.verify_graph.ensures in
    rw (← c.self.view_is)
    (ran_keeps c.args.limits.work c.in-VerifyGraph.graph c.args.request.now
    c.self.inside.kept.entries c.verify_graph.new.kept.entries c.verify_graph.result
    (inl c.in-VerifyGraph.is) (λ asks. does.takes) does.found does.stay)

pub returns-in-ProcessGraph-clause-verified : goal.returns-in-ProcessGraph-clause-verified
returns-in-ProcessGraph-clause-verified c =
    let does = c.process_graph.ensures in
    rw (← c.self.view_is)
    (ran_keeps c.args.limits.work c.in-ProcessGraph.graph c.args.request.now
    c.self.inside.kept.entries c.process_graph.new.kept.entries c.process_graph.result
    (inr c.in-ProcessGraph.is)
    (λ asks. let other : VerifyGraph c.in-ProcessGraph.graph
    ≡ ProcessGraph c.in-ProcessGraph.graph = sym asks ∙ c.in-ProcessGraph.is in absurd (cc))
    does.found does.stay)

pub returns-in_ok-reply-in_default-clause-verified :
    goal.returns-in_ok-reply-in_default-clause-verified
returns-in_ok-reply-in_default-clause-verified c =
    let s = c.self.inside in
    let new = c.forget.new.kept.entries in
    let told =
    subst IsTold c.in_ok-reply-in_default.ensures.comes.done
    (outcome_told c.args.limits s.table c.args.request.now) in
    rw (← c.self.view_is)
    (done_keeps c.args.limits.work c.args.request.now (search rules)
    (verified_in s.kept.entries) (verified_in new) c.in_ok-reply-in_default.reply told
    (λ name spares. shown_still c.args.limits.work name s.kept.entries new
    (λ is. c.forget.ensures.stay name spares ∙ is))
    (All-map (λ (g : ℕ × ℕ). ends_verification c.args.request.now g.0 ≡ false)
    (λ (k : ℕ × KeptGraph). (k.0, k.1.work)) new c.forget.ensures.left))
