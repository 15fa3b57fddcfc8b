use Rattle.graph_verify.proofs.SolutionLemmas.{rounds_solve, only_solution}
use Rattle.graph_verify.proofs.VerdictLemmas.{can_run}
use Rattle.graph_verify.proofs.laws.rounds.only_solution.Goals as goal

pub returns-clause-solves : goal.returns-clause-solves
returns-clause-solves g c value work is nodes held alone h =
    let r = can_run work is nodes h in rounds_solve value nodes held alone r.one_writer r.no_cycle

pub returns-clause-only : goal.returns-clause-only
returns-clause-only g c value work is nodes held after alone h =
    let r = can_run work is nodes h in
    only_solution value nodes held after alone r.one_writer r.no_cycle
