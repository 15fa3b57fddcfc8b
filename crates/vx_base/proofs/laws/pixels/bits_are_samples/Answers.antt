use Rattle.vx_base.proofs.ResultLaws.{or_sample, xor_sample}
use Rattle.vx_base.proofs.laws.pixels.bits_are_samples.Goals as goal

pub returns-clause-or : goal.returns-clause-or
returns-clause-or c = or_sample

pub returns-clause-xor : goal.returns-clause-xor
returns-clause-xor c = xor_sample
