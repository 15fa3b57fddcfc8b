use Rattle.std.proofs.Common.{refl}
use Rattle.vx_base.proofs.examples.nodes.Goals as goal

pub returns-clause-number : goal.returns-clause-number
returns-clause-number c = refl

pub returns-clause-name : goal.returns-clause-name
returns-clause-name c = refl

pub returns-clause-whole : goal.returns-clause-whole
returns-clause-whole c = refl

pub returns-clause-no_output : goal.returns-clause-no_output
returns-clause-no_output c = refl

pub returns-clause-other_policy : goal.returns-clause-other_policy
returns-clause-other_policy c = refl
