use Rattle.std.proofs.Common.{refl}
use Rattle.vx_base.proofs.examples.descriptions.Goals as goal

pub returns-clause-least : goal.returns-clause-least
returns-clause-least c = refl

pub returns-clause-greatest : goal.returns-clause-greatest
returns-clause-greatest c = refl

pub returns-clause-none_wide : goal.returns-clause-none_wide
returns-clause-none_wide c = refl

pub returns-clause-too_high : goal.returns-clause-too_high
returns-clause-too_high c = refl

pub returns-clause-bytes : goal.returns-clause-bytes
returns-clause-bytes c = refl
