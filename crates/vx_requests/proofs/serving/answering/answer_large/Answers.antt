use Rattle.vx_requests.proofs.serving.answering.answer_large.Goals as goal

pub returns-in-Err-clause-answered : goal.returns-in-Err-clause-answered
returns-in-Err-clause-answered g c = rw c.ask_again.ensures.same (c.lose_body.ensures.answered _ _)
