use Rattle.std.proofs.Common.{ℕ, List, sym, subst, rules, IsSome}
use Rattle.client_contexts.proofs.Common.{nat_cmp, IsRuntime, ClientContext}
use Rattle.std.specs.BTreeMap.{get_by}
use Rattle.client_contexts.proofs.IncomingLemmas.{write_applies, write_told, write_same}
use Rattle.client_contexts.proofs.RuntimeLemmas.{client_keeps, changed_is}
use Rattle.client_contexts.proofs.runtime.Runtime.write_once.Goals as goal

pub invariant_of-self-2 : goal.invariant_of-self-2
invariant_of-self-2 g c =
    let s = c.self.inside in
    let found = sym c.in-Some.ensures.value in
    subst
    (λ (entries : List (ℕ × ClientContext)). IsRuntime s.limits entries c.write_from.new.pool)
    (sym (c.get_mut.follows.holds c.write_from.new.self).0)
    (changed_is s.limits s.contexts.entries s.pool c.self.invariant c.args.client
    c.in-Some.held.now c.write_from.new.self c.write_from.new.pool found
    (c.write_from.ensures.within_limits s.limits
    (client_keeps s.limits s.contexts.entries s.pool c.self.invariant c.args.client
    c.in-Some.held.now found))
    c.write_from.ensures.balances)

pub returns-clause-written : goal.returns-clause-written
returns-clause-written g c =
    let s = c.self.inside in
    let entries = (c.get_mut.follows.lender c.write_from.new.self).entries in
    let there : IsSome (get_by (nat_cmp c.args.client) s.contexts) = search rules in
    let updates = (c.get_mut.follows.holds c.write_from.new.self).3 there in
    write_applies _ c.args.desc _ _ s.limits c.args.client s.contexts.entries entries
    c.args.self.now c.self.view_is c.in-Some.held.now c.write_from.new.self
    (sym c.in-Some.ensures.value)
    c.write_from.result c.args.reference updates.1 updates.2 c.write_from.ensures.verified
    c.write_from.ensures.done

pub returns-clause-err : goal.returns-clause-err
returns-clause-err g c =
    let s = c.self.inside in
    write_told _ c.args.desc _ _ s.limits c.args.client s.contexts.entries s.contexts.entries
    c.args.self.now c.self.view_is c.in-Some.held.now c.in-Some.held.now
    (sym c.in-Some.ensures.value)
    c.write_from.result c.args.reference c.write_from.ensures.err

pub returns-clause-same : goal.returns-clause-same
returns-clause-same g c =
    let s = c.self.inside in
    let entries = (c.get_mut.follows.lender c.write_from.new.self).entries in
    write_same s.limits c.args.client s.contexts.entries entries c.args.self.now
    c.in-Some.held.now c.write_from.new.self c.write_from.result c.self.view_is
    (sym c.in-Some.ensures.value)
    (c.get_mut.follows.holds c.write_from.new.self).0 c.write_from.ensures.same
