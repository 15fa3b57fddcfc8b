use Rattle.std.proofs.Common.{ap, sym}
use Rattle.client_contexts.specs.Steps.{name_refusal}
use Rattle.client_contexts.proofs.lookup.find_named.Goals as goal

pub returns-in_default-clause-err : goal.returns-in_default-clause-err
returns-in_default-clause-err c = sym (ap (name_refusal c.args.kind) c.in_default.ensures.err.1)
