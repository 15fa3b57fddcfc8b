use Rattle.std.proofs.Common.{refl}
use Rattle.vx_base.proofs.examples.rectangles.Goals as goal

pub returns-clause-proper : goal.returns-clause-proper
returns-clause-proper c = refl

pub returns-clause-zeros : goal.returns-clause-zeros
returns-clause-zeros c = refl

pub returns-clause-no_places : goal.returns-clause-no_places
returns-clause-no_places c = refl

pub returns-clause-turned : goal.returns-clause-turned
returns-clause-turned c = refl

pub returns-clause-met : goal.returns-clause-met
returns-clause-met c = refl

pub returns-clause-apart : goal.returns-clause-apart
returns-clause-apart c = refl

pub returns-clause-inner : goal.returns-clause-inner
returns-clause-inner c = refl

pub returns-clause-too_small : goal.returns-clause-too_small
returns-clause-too_small c = refl
