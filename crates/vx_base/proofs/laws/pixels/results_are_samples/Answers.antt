use Rattle.vx_base.proofs.ResultLaws.{of_one, of_two, accumulated_is}
use Rattle.vx_base.proofs.laws.pixels.results_are_samples.Goals as goal

pub returns-clause-one : goal.returns-clause-one
returns-clause-one c = of_one

pub returns-clause-two : goal.returns-clause-two
returns-clause-two c = of_two

pub returns-clause-accumulated : goal.returns-clause-accumulated
returns-clause-accumulated c = accumulated_is
