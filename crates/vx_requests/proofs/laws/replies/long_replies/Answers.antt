use Rattle.vx_requests.proofs.LongReplies.{long_asks, long_leaves}
use Rattle.vx_requests.proofs.laws.replies.long_replies.Goals as goal

pub returns-clause-frames : goal.returns-clause-frames
returns-clause-frames c = long_asks

pub returns-clause-states : goal.returns-clause-states
returns-clause-states c = long_leaves
