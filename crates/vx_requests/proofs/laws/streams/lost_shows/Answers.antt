use Rattle.std.proofs.Common.{[]}
use Rattle.vx_requests.proofs.Common.{answer}
use Rattle.vx_requests.proofs.Alone.{lost_shows_after}
use Rattle.vx_requests.proofs.AnswerCodes.{answer-other}
use Rattle.vx_requests.proofs.laws.streams.lost_shows.Goals as goal

pub returns : goal.returns
returns c =
    λ limits start marked. lost_shows_after (answer limits) (answer-other limits) start [] marked
