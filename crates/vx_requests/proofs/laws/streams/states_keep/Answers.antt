use Rattle.vx_requests.proofs.Common.{answer, after}
use Rattle.vx_requests.proofs.KeptStates.{frames_keep, images_are}
use Rattle.vx_requests.proofs.laws.streams.states_keep.Goals as goal

pub returns-clause-limits : goal.returns-clause-limits
returns-clause-limits c = frames_keep

pub returns-clause-images : goal.returns-clause-images
returns-clause-images c = λ limits state frames cell are kept.
    images_are limits (after (answer limits) state frames) cell
    (frames_keep limits state frames are kept)
