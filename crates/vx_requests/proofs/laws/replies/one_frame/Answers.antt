use Rattle.vx_requests.proofs.OneFrame.{one_session, one_frame}
use Rattle.vx_requests.proofs.laws.replies.one_frame.Goals as goal

pub returns-clause-one_session : goal.returns-clause-one_session
returns-clause-one_session c = one_session

pub returns-clause-one_reply : goal.returns-clause-one_reply
returns-clause-one_reply c = one_frame
