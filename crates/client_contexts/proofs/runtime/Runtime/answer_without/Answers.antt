use Rattle.std.proofs.Common.{◌∙◌, ℕ, List, ap, sym, subst}
use Rattle.client_contexts.proofs.Common.{insert_entry, nat_cmp, IsRuntime, ClientContext, World}
use Rattle.client_contexts.specs.World.{state_of}
use Rattle.client_contexts.proofs.RuntimeLemmas.{none_open, opened_is}
use Rattle.client_contexts.proofs.runtime.Runtime.answer_without.Goals as goal

pub invariant_of-self-in-OpenContext : goal.invariant_of-self-in-OpenContext
invariant_of-self-in-OpenContext c =
    let s = c.self.inside in
    let insert = c.in_ok-insert-in-OpenContext.ensures in
    let none =
    none_open s.contexts.entries c.args.client
    (ap (λ (w : World). state_of c.args.client w) c.self.view_is ∙ c.requires) in
    let opened =
    opened_is s.limits s.contexts.entries s.pool c.self.invariant c.args.client none
    insert.was_ordered in
    subst (λ (entries : List (ℕ × ClientContext)). IsRuntime s.limits entries s.pool)
    (sym insert.entries)
    (subst
    (λ (new : ClientContext). IsRuntime s.limits
    (insert_entry nat_cmp s.contexts.entries c.args.client new) s.pool)
    (sym c.new.ensures) opened)
