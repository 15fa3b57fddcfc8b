use Rattle.std.proofs.Common.{refl}
use Rattle.vx_base.proofs.examples.formats.Goals as goal

pub returns-clause-widened : goal.returns-clause-widened
returns-clause-widened c = refl

pub returns-clause-narrowed : goal.returns-clause-narrowed
returns-clause-narrowed c = refl

pub returns-clause-tested : goal.returns-clause-tested
returns-clause-tested c = refl

pub returns-clause-same : goal.returns-clause-same
returns-clause-same c = refl
