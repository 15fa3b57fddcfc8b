-- Histories: connects, frames and disconnects of any connections, in any interleaving.
use Rattle.std.specs.Prelude.{◌≡◌, ℕ, ◌==◌, cond, Bool, false, List, [], ◌∷◌, ⊤}
use Rattle.vx_requests.specs.Frame.Frames.{ReplyFrame}
use Rattle.vx_requests.specs.Serving.Clients.{ReceivedFrame}
use Rattle.connections.specs.Connections.{ConnectionsValue, Connects, Closes, Answers}

-- what happened: a connection was opened with this number, a frame of a connection was received and
-- got this reply, or a connection was closed
pub data Event : Type 0 where
  Connected : (connection : ℕ) → Event
  Received : (connection : ℕ) (m : ReceivedFrame) (reply : ReplyFrame) → Event
  Disconnected : (connection : ℕ) → Event

-- the effect of an event
abbrev pub Happens : Event → (old new : ConnectionsValue) → Type 0
Happens (Connected connection) old new = Connects connection old new
Happens (Received connection m reply) old new = Answers connection m reply old new
Happens (Disconnected connection) old new = Closes connection old new

-- the events happened one after the other
abbrev pub History : (old : ConnectionsValue) → List Event → (new : ConnectionsValue) → Type 0
History old [] new = new ≡ old
History old (event ∷ events) new =
    (next : ConnectionsValue) × Happens event old next × History next events new

-- whether the connection was closed
abbrev pub closes : ℕ → Event → Bool
closes connection (Disconnected other) = other == connection
closes connection event = false

-- the connection was not closed
abbrev pub NeverCloses : ℕ → List Event → Type 0
NeverCloses connection [] = ⊤
NeverCloses connection (event ∷ events) =
    (closes connection event ≡ false) × NeverCloses connection events

-- the frames of a connection, in order
abbrev pub received_of : ℕ → List Event → List ReceivedFrame
received_of connection [] = []
received_of connection (Received other m reply ∷ events) =
    cond (other == connection) (m ∷ received_of connection events) (received_of connection events)
received_of connection (event ∷ events) = received_of connection events

-- the replies to a connection's frames, in order
abbrev pub replies_of : ℕ → List Event → List ReplyFrame
replies_of connection [] = []
replies_of connection (Received other m reply ∷ events) =
    cond (other == connection) (reply ∷ replies_of connection events) (replies_of connection events)
replies_of connection (event ∷ events) = replies_of connection events
