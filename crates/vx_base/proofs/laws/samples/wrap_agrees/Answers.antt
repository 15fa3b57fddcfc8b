use Rattle.vx_base.proofs.SampleLaws.{wrap_agrees}
use Rattle.vx_base.proofs.laws.samples.wrap_agrees.Goals as goal

pub returns-clause-agrees : goal.returns-clause-agrees
returns-clause-agrees c = wrap_agrees
