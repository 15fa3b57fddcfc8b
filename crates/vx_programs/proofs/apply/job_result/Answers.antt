use Rattle.vx_programs.proofs.FaultLemmas.{ends_if}
use Rattle.vx_programs.proofs.apply.job_result.Goals as goal

pub returns-in_err-picture-clause-err : goal.returns-in_err-picture-clause-err
returns-in_err-picture-clause-err c =
    ends_if c.args.job c.args.text.now c.in_err-picture.field-0.0 c.in_err-picture.ensures.err
    c.from_residual.result c.from_residual.ensures.1
