use Rattle.graph_run.proofs.SolutionLaws.{rounds_are_solution}
use Rattle.graph_run.proofs.laws.rounds_solve.Goals as goal

pub returns-clause-solves : goal.returns-clause-solves
returns-clause-solves c = rounds_are_solution
