use Rattle.graph_steps.proofs.ExampleLaws.{is_program, can_reduce}
use Rattle.graph_steps.proofs.examples.two_boxes.Goals as goal

pub returns : goal.returns
returns c = record { program = is_program; reduces = can_reduce }
