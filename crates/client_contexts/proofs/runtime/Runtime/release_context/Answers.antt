use Rattle.std.proofs.Common.{ℕ, List, sym, subst}
use Rattle.client_contexts.proofs.Common.{IsRuntime, ClientContext}
use Rattle.client_contexts.proofs.RuntimeLemmas.{lends_to_client, removed_is}
use Rattle.client_contexts.proofs.runtime.Runtime.release_context.Goals as goal

pub end-requires : goal.end-requires
end-requires c =
    let s = c.self.inside in
    lends_to_client s.limits s.contexts.entries s.pool c.self.invariant c.args.client
    c.in-Some.held (sym c.in-Some.ensures.value)

pub invariant_of-self : goal.invariant_of-self
invariant_of-self c =
    let s = c.self.inside in
    subst (λ (entries : List (ℕ × ClientContext)). IsRuntime s.limits entries c.end.new.pool)
    (sym c.remove.ensures.entries)
    (removed_is s.limits s.contexts.entries s.pool c.self.invariant c.args.client c.in-Some.held
    c.end.new.pool (sym c.in-Some.ensures.value) c.end.ensures)
