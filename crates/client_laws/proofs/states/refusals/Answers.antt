use Rattle.client_laws.proofs.RefusalLaws.{refusal_leaves}
use Rattle.client_laws.proofs.states.refusals.Goals as goal

pub returns-clause-state : goal.returns-clause-state
returns-clause-state c = refusal_leaves
