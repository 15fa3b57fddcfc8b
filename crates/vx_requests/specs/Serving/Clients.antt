-- The states of a stream's clients, and the replies to their frames. Only a client's own kept
-- frames change the client's state.
use Rattle.std.specs.Prelude.{ℕ, Bool, not, ◌&&◌, ◌==◌, cond, List, [], ◌∷◌, ◌++◌, map, filter}
use Rattle.client_model.specs.Context.{State}
use Rattle.client_contexts.specs.World.{World, state_of}
use Rattle.vx_requests.specs.Frame.Frames.{Frame, ReplyFrame}
use Rattle.vx_wire.specs.Replies.{Said}

-- the states of all clients
abbrev pub states_of : World → ℕ → State
states_of world client = state_of client world

-- the frame of a reply
abbrev pub spelled_frame : ℕ → ℕ → Said → ReplyFrame
spelled_frame client op said = record {
  client = client;
  op = op;
  code = said.code;
  body = said.body;
}

-- the reply frame to a request frame: the request's client and op, and this code and body
abbrev pub reply_to : Frame → Said → ReplyFrame
reply_to f said = spelled_frame f.client f.op said

-- a frame that was received, and whether it was lost because memory ran out
pub record ReceivedFrame : Type 0 where
  pub frame : Frame
  pub lost : Bool

-- the frames that were received, whether lost or not
abbrev pub frames_of : List ReceivedFrame → List Frame
frames_of marked = map (λ m. m.frame) marked

-- whether a received frame is the client's and was kept
abbrev pub is_kept_of : ℕ → ReceivedFrame → Bool
is_kept_of client m = (m.frame.client == client) && not m.lost

-- the client's kept frames, in order
abbrev pub mine : ℕ → List ReceivedFrame → List Frame
mine client marked = map (λ m. m.frame) (filter (is_kept_of client) marked)

-- the frames that a router sends to the server of this number; `server` gives the number of each
-- client's server
abbrev pub sent_to : (ℕ → ℕ) → ℕ → List ReceivedFrame → List ReceivedFrame
sent_to server number marked = filter (λ m. server m.frame.client == number) marked

-- the replies to the client's kept frames
abbrev pub kept_replies : ℕ → List ReceivedFrame → List ReplyFrame → List ReplyFrame
kept_replies client [] replies = []
kept_replies client (m ∷ marked) [] = []
kept_replies client (m ∷ marked) (r ∷ replies) =
    cond (is_kept_of client m) (r ∷ kept_replies client marked replies)
    (kept_replies client marked replies)

-- the reply to a lost frame: NO_MEMORY
abbrev pub no_memory : Frame → ReplyFrame
no_memory f = reply_to f (record { code = 1; body = [] })

-- for a state, an op and a body, `answer` gives the reply and the new state
module _ {S : Type 0} (answer : S → ℕ → List ℕ → Said × S) where
  -- the reply to a frame of a client in this state, and the client's new state
  abbrev pub answer_frame : S → Frame → Said × S
  answer_frame state f = answer state f.op f.body

  -- a client's state after these frames of its own
  abbrev pub after : S → List Frame → S
  after state [] = state
  after state (f ∷ frames) = after (answer_frame state f).1 frames

  -- the replies to these frames of one client that has the server to itself
  abbrev pub alone : S → List Frame → List ReplyFrame
  alone state [] = []
  alone state (f ∷ frames) =
      reply_to f (answer_frame state f).0 ∷ alone (answer_frame state f).1 frames

  -- the reply to a frame, given the clients' states; the reply to a lost frame is NO_MEMORY
  abbrev pub reply_in : (ℕ → S) → ReceivedFrame → ReplyFrame
  reply_in states m =
      cond m.lost (no_memory m.frame)
      (reply_to m.frame (answer_frame (states m.frame.client) m.frame).0)

  -- a client's state after a frame; the state changes only if the frame is the client's and was
  -- kept
  abbrev pub state_then : (ℕ → S) → ReceivedFrame → ℕ → S
  state_then states m client =
      cond (is_kept_of client m) (answer_frame (states client) m.frame).1 (states client)

  -- each client's state after its own kept frames
  abbrev pub states_after : (ℕ → S) → List ReceivedFrame → ℕ → S
  states_after start marked client = after (start client) (mine client marked)

  -- the replies to frames that come after the frames `before`; each frame is answered in the states
  -- that all earlier frames leave
  abbrev pub served_after : (ℕ → S) → List ReceivedFrame → List ReceivedFrame → List ReplyFrame
  served_after start before [] = []
  served_after start before (m ∷ marked) =
      reply_in (states_after start before) m ∷ served_after start (before ++ m ∷ []) marked

  -- the replies to frames, one for each frame, in order; `start` has the state in which each client
  -- starts
  abbrev pub served : (ℕ → S) → List ReceivedFrame → List ReplyFrame
  served start marked = served_after start [] marked
