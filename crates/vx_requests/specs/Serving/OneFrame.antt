-- One frame that is served alone.
use Rattle.std.specs.Prelude.{◌≡◌, ℕ, List}
use Rattle.client_model.specs.Limits.{LimitsValue}
use Rattle.client_model.specs.Context.{State}
use Rattle.vx_requests.specs.Frame.Frames.{Frame, ReplyFrame, IsFrame, frame_bytes, reply_bytes}
use Rattle.vx_requests.specs.Serving.Turn.{IsReply}

-- the bytes `read` are one frame, and the bytes `written` are its reply
pub record ServesOneFrame (limits : LimitsValue) (read written : List ℕ) (old new : ℕ → State) :
    Type 0 where
  pub frame : Frame
  pub reply : ReplyFrame
  pub is_frame : IsFrame frame
  pub read_is : read ≡ frame_bytes frame
  pub replied : IsReply limits frame old new reply
  pub written_is : written ≡ reply_bytes reply
