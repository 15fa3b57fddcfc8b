use Rattle.std.proofs.Common.{subst, sym}
use Rattle.client_contexts.proofs.Common.{ClientContext, KeepsLimits}
use Rattle.client_contexts.proofs.IncomingLemmas.{incoming_keeps}
use Rattle.client_contexts.proofs.client.Client.write_from.Goals as goal

pub invariant_of-self : goal.invariant_of-self
invariant_of-self g c =
    let s = c.self.inside in
    incoming_keeps _ c.args.desc _ _ c.requires.context.0 s.table c.write_from.new.table
    c.args.reference s.kept.entries c.write_from.result
    (subst (λ (o : ClientContext). KeepsLimits c.requires.context.0 o.context)
    (sym c.self.view_is) c.requires.context.1)
    c.prove_reference.ensures c.write_from.ensures.done c.write_from.ensures.same
    c.self.invariant

pub returns-clause-within_limits : goal.returns-clause-within_limits
returns-clause-within_limits g c = rw (← c.self.view_is) c.write_from.ensures.within_limits
