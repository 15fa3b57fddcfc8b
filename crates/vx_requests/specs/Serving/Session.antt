-- The top-level property: the effect of a call of `serve`.
use Rattle.std.specs.Prelude.{◌≡◌, ℕ, true, List, ◌++◌, Option, Result, All}
use Rattle.std.specs.Io.KnownBytes.{Consumes}
use Rattle.client_model.specs.Limits.{LimitsValue}
use Rattle.client_model.specs.Context.{State}
use Rattle.vx_requests.specs.declared.stream.fault.StreamFault.{StreamFault}
use Rattle.vx_requests.specs.declared.serving.summary.Summary.{Summary}
use Rattle.vx_requests.specs.Frame.Frames.{IsFrame, frames_bytes}
use Rattle.vx_requests.specs.Serving.Clients.{ReceivedFrame, frames_of, mine, after, served}
use Rattle.vx_requests.specs.Serving.Answer.{answer}
use Rattle.vx_requests.specs.Serving.Lost.{MayBeLost}
use Rattle.vx_requests.specs.Serving.Ends.{Ends}

-- The bytes read are whole frames and a rest. A frame was lost only if `MayBeLost` allows it. The
-- bytes written are the replies to the frames; after `WriteFailed`, the last reply may be
-- incomplete. Each client's state is the one that its own kept frames leave.
pub record Session (limits : LimitsValue)
    (left_old left_new taken_old taken_new : Option (List ℕ)) (old new : ℕ → State)
    (result : Result Summary StreamFault) : Type 0 where
  pub marked : List ReceivedFrame
  pub rest : List ℕ
  pub frames : All IsFrame (frames_of marked)
  pub lost : All (λ m. m.lost ≡ true → MayBeLost m.frame) marked
  pub read : Consumes left_old left_new (frames_bytes (frames_of marked) ++ rest)
  pub ends : Ends result rest left_new taken_old taken_new (served (answer limits) old marked)
  pub states : (client : ℕ) → new client ≡ after (answer limits) (old client) (mine client marked)
