use Rattle.graph_steps.proofs.ExampleLaws.{sums_program}
use Rattle.graph_steps.proofs.examples.integral_image.Goals as goal

pub returns : goal.returns
returns c = sums_program
