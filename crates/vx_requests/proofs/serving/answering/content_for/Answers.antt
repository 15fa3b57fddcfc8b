use Rattle.std.proofs.Common.{refl}
use Rattle.vx_requests.proofs.FrameReplies.{fault_reply}
use Rattle.vx_requests.proofs.serving.answering.content_for.Goals as goal

pub returns-in-Err-clause-replies : goal.returns-in-Err-clause-replies
returns-in-Err-clause-replies c =
    rw c.code.ensures (fault_reply _ _ _ _ _ _ c.in-Err.fault c.in-Err.ensures.err (λ each. refl))
