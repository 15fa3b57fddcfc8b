use Rattle.std.proofs.Common.{ℕ, List, sym, subst}
use Rattle.client_contexts.proofs.Common.{IsRuntime, ClientContext}
use Rattle.client_contexts.proofs.RuntimeLemmas.{client_keeps, changed_is}
use Rattle.client_contexts.proofs.runtime.Runtime.write_text_once.Goals as goal

pub invariant_of-self-2 : goal.invariant_of-self-2
invariant_of-self-2 c =
    let s = c.self.inside in
    let found = sym c.in-Some.ensures.value in
    subst
    (λ (entries : List (ℕ × ClientContext)). IsRuntime s.limits entries c.write_text.new.pool)
    (sym (c.get_mut.follows.holds c.write_text.new.self).0)
    (changed_is s.limits s.contexts.entries s.pool c.self.invariant c.args.client
    c.in-Some.held.now c.write_text.new.self c.write_text.new.pool found
    (c.write_text.ensures.within_limits s.limits
    (client_keeps s.limits s.contexts.entries s.pool c.self.invariant c.args.client
    c.in-Some.held.now found))
    c.write_text.ensures.balances)
