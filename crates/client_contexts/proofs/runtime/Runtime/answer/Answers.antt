use Rattle.std.proofs.Common.{ℕ, List, sym, subst}
use Rattle.client_contexts.proofs.Common.{IsRuntime, ClientContext}
use Rattle.client_contexts.proofs.RuntimeLemmas.{lends_to_client, changed_is}
use Rattle.client_contexts.proofs.runtime.Runtime.answer.Goals as goal

pub answer-requires-clause-owns : goal.answer-requires-clause-owns
answer-requires-clause-owns c =
    let s = c.self.inside in
    lends_to_client s.limits s.contexts.entries s.pool c.self.invariant c.args.client
    c.in-Some.held.now (sym c.in-Some.ensures.value)

pub invariant_of-self : goal.invariant_of-self
invariant_of-self c =
    let s = c.self.inside in
    subst (λ (entries : List (ℕ × ClientContext)). IsRuntime s.limits entries c.answer.new.pool)
    (sym (c.get_mut.follows.holds c.answer.new.self).0)
    (changed_is s.limits s.contexts.entries s.pool c.self.invariant c.args.client
    c.in-Some.held.now c.answer.new.self c.answer.new.pool (sym c.in-Some.ensures.value)
    c.answer.ensures.within_limits c.answer.ensures.balances)
