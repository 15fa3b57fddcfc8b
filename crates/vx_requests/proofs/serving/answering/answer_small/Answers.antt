use Rattle.std.proofs.Common.{rules}
use Rattle.vx_requests.proofs.Turns.{whole_payload}
use Rattle.vx_requests.proofs.serving.answering.answer_small.Goals as goal

pub returns-clause-answered : goal.returns-clause-answered
returns-clause-answered g c =
    let frame = c.frame_in-frame.result in
    whole_payload _ _ _ _ _ frame.client frame.op frame.body.now c.read_exactly.new.buf
    c.answer_frame-content.result (search rules) (search rules)
    c.frame_in-frame.ensures.bytes (search rules) c.frame_in-frame.ensures.spelled
    c.in_ok-read_exactly.ensures.ok c.answer_frame-content.ensures.replies
