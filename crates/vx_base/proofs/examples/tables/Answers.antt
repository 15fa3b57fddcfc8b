use Rattle.std.proofs.Common.{refl}
use Rattle.vx_base.proofs.examples.tables.Goals as goal

pub returns-clause-third : goal.returns-clause-third
returns-clause-third c = refl

pub returns-clause-least : goal.returns-clause-least
returns-clause-least c = refl

pub returns-clause-second : goal.returns-clause-second
returns-clause-second c = refl

pub returns-clause-not_second : goal.returns-clause-not_second
returns-clause-not_second c = refl
