use Rattle.client_contexts.proofs.KeptLemmas.{lent_is_kept}
use Rattle.client_contexts.proofs.client.Client.kept.Goals as goal

pub returns-clause-holds : goal.returns-clause-holds
returns-clause-holds c =
    rw (← c.self.view_is)
    (lent_is_kept c.self.inside.table c.args.graph c.self.inside.kept.entries c.get.result
    c.self.invariant c.get.ensures.value)
