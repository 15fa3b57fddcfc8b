use Rattle.std.proofs.Common.{refl}
use Rattle.vx_requests.proofs.Common.{err_from_is_err_and}
use Rattle.vx_requests.proofs.Turns.{lost_body}
use Rattle.vx_requests.proofs.serving.answering.lose_body.Goals as goal

pub returns-in_err-skip-clause-answered : goal.returns-in_err-skip-clause-answered
returns-in_err-skip-clause-answered g c = λ limits states.
    let p = err_from_is_err_and c.from_residual.result c.from_residual.ensures.1 in
    rw (p.1, p.2) (c.in_err-skip.ensures.err, λ client. refl)

pub returns-clause-answered : goal.returns-clause-answered
returns-clause-answered g c = λ limits states.
    lost_body limits _ _ states c.args.client c.args.op c.args.count c.requires.long
    c.in_ok-skip.ensures.ok
