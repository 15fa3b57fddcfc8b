use Rattle.std.proofs.Common.{rules}
use Rattle.vx_requests.proofs.Common.{err_from_is_err_and, states_of}
use Rattle.vx_requests.proofs.Turns.{answered_payload, failed_payload}
use Rattle.vx_requests.proofs.serving.answering.answer_payload.Goals as goal

pub returns-in_err-content-clause-answered : goal.returns-in_err-content-clause-answered
returns-in_err-content-clause-answered g c =
    let p =
    err_from_is_err_and c.from_residual-in_err-content.result
    c.from_residual-in_err-content.ensures.1 in
    rw (p.1, p.2)
    (failed_payload c.args.runtime.now.limits _ _ _ (states_of c.args.runtime.now)
    (states_of c.answer_large.new.runtime) c.in_ok-client.client c.in_ok-client.op c.args.length
    _ c.requires.length_ok c.in_ok-client.ensures.ok c.in_err-content.ensures.answered)

pub returns-clause-answered : goal.returns-clause-answered
returns-clause-answered g c =
    answered_payload _ _ _ _ _ _ c.in_ok-client.client c.in_ok-client.op c.args.length
    c.in_ok-content.content (search rules) (search rules)
    c.requires.length_ok c.in_ok-client.ensures.ok c.in_ok-content.ensures.answered
