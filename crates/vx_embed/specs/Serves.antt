-- The effect of serving a frame of a connection.
use Rattle.std.specs.Prelude.{◌≡◌, ℕ, ◌+◌, ◌<◌, ◌≤◌, true, false, List, ◌++◌, length, take, ◌⊎◌}
use Rattle.connections.specs.Connections.{ConnectionsValue, StaysOpen, is_open, states_in}
use Rattle.vx_requests.specs.Frame.Frames.{Frame, IsFrame, frame_bytes, said_length}
use Rattle.vx_requests.specs.Serving.OneFrame.{ServesOneFrame}
use Rattle.vx_requests.specs.Serving.Turn.{SameStates}
use Rattle.vx_embed.specs.Opens.{StaysHeld}
use Rattle.vx_embed.specs.declared.handle.Handle.{Handle}
use Rattle.vx_embed.specs.declared.status.Status.{Status}
use Rattle.vx_embed.specs.declared.status.Status.TheVariants as status

-- the bytes are exactly one frame
abbrev pub IsOneFrame : List ℕ → Type 0
IsOneFrame bytes = (frame : Frame) × IsFrame frame × (bytes ≡ frame_bytes frame)

module _ (connection : ℕ) (old new : ConnectionsValue) (front back buffer : List ℕ) (count : ℕ)
  where
    -- the frame gets the reply that a server of the connection's own gives
    abbrev pub RepliesWith : List ℕ → Type 0
    RepliesWith reply =
        ServesOneFrame old.limits (front ++ back) reply (states_in old connection)
        (states_in new connection)

    -- a reply has at least as many bytes as the buffer. Its first four bytes say `count`
    abbrev pub ExceedsBuffer : Type 0
    ExceedsBuffer =
        (reply : List ℕ)
        × RepliesWith reply
        × (length buffer ≤ length reply)
        × (count ≡ said_length reply + 4)

    -- the connections before and after, the buffer after, and the status. At Ok the first `count`
    -- bytes of the buffer are the reply
    abbrev pub Answers : Status → Type 0
    Answers status.Ok =
        StaysOpen connection old new × (count ≤ length buffer) × RepliesWith (take count buffer)
    Answers status.TooShort =
        SameStates (states_in old connection) (states_in new connection)
        ×
        (((length buffer < 28) × (count ≡ 28) × (new ≡ old))
        ⊎ (StaysOpen connection old new × ExceedsBuffer))
    Answers status.NotAFrame =
        (new ≡ old) × (count ≡ 0) × (IsOneFrame (front ++ back) → length front < 4)
    Answers other = ⊥

    -- the same, where the connection may not be open
    abbrev pub AnswersOpen : Status → Type 0
    AnswersOpen status.NotConnected = (is_open old connection ≡ false) × (new ≡ old) × (count ≡ 0)
    AnswersOpen result = (is_open old connection ≡ true) × Answers result

-- the handle before and after, the buffer after, and the status
abbrev pub Serves : (connection : ℕ) (old new : Handle) (front back buffer : List ℕ) (count : ℕ)
    → Status
    → Type 0
Serves connection old new front back buffer count status.NotOpen =
    (old.held ≡ false) × (new ≡ old) × (count ≡ 0)
Serves connection old new front back buffer count result =
    StaysHeld old new × AnswersOpen connection old.world new.world front back buffer count result
