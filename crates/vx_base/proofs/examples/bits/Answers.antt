use Rattle.std.proofs.Common.{refl}
use Rattle.vx_base.proofs.examples.bits.Goals as goal

pub returns-clause-and : goal.returns-clause-and
returns-clause-and c = refl

pub returns-clause-or : goal.returns-clause-or
returns-clause-or c = refl

pub returns-clause-xor : goal.returns-clause-xor
returns-clause-xor c = refl
