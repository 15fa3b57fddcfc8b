-- The open connections, and the states of their clients. What a call does to them.
use Rattle.std.specs.Prelude.{◌≡◌, ◌≢◌, ℕ, Bool, true, false, is_some, List, [], None, unwrap_or}
use Rattle.std.specs.BTreeMap.{is_at}
use Rattle.std.specs.Map.{lookup}
use Rattle.std.specs.Ordering.{nat_cmp}
use Rattle.client_model.specs.Limits.{LimitsValue}
use Rattle.client_model.specs.Context.{State}
use Rattle.vx_requests.specs.Frame.Frames.{ReplyFrame}
use Rattle.vx_requests.specs.Serving.Answer.{answer}
use Rattle.vx_requests.specs.Serving.Clients.{ReceivedFrame, reply_in, state_then}
use Rattle.vx_requests.specs.Serving.Lost.{MayBeLost}

-- the limits, and the open connections by their numbers, each with its clients that have a context
pub record ConnectionsValue : Type 0 where
  pub limits : LimitsValue
  pub connections : List (ℕ × List (ℕ × State))

-- whether a connection with this number is open
abbrev pub is_open : ConnectionsValue → ℕ → Bool
is_open v connection = is_some (lookup (is_at (nat_cmp connection)) v.connections)

-- the clients of a connection that have a context; none if the connection isn't open
abbrev pub clients_of : ConnectionsValue → ℕ → List (ℕ × State)
clients_of v connection = unwrap_or (lookup (is_at (nat_cmp connection)) v.connections) []

-- the states of a connection's clients; the numbers of clients are the connection's own
abbrev pub states_in : ConnectionsValue → ℕ → ℕ → State
states_in v connection client =
    unwrap_or (lookup (is_at (nat_cmp client)) (clients_of v connection)) None

-- the limits are as before; each other connection is open if it was open, and its clients' states
-- are as before
pub record LeavesOthers (connection : ℕ) (old new : ConnectionsValue) : Type 0 where
  pub limits : new.limits ≡ old.limits
  pub still_open : (other : ℕ) → other ≢ connection → is_open new other ≡ is_open old other
  pub states : (other : ℕ)
      → other ≢ connection
      → (client : ℕ)
      → states_in new other client ≡ states_in old other client

-- a connection with a new number was opened; none of its clients has a context
pub record Connects (connection : ℕ) (old new : ConnectionsValue) : Type 0 where
  pub was_free : is_open old connection ≡ false
  pub opened : is_open new connection ≡ true
  pub no_contexts : (client : ℕ) → states_in new connection client ≡ None
  pub others : LeavesOthers connection old new

-- the connection was closed
pub record Closes (connection : ℕ) (old new : ConnectionsValue) : Type 0 where
  pub closed : is_open new connection ≡ false
  pub others : LeavesOthers connection old new

-- the connection stays open
pub record StaysOpen (connection : ℕ) (old new : ConnectionsValue) : Type 0 where
  pub opened : is_open new connection ≡ true
  pub others : LeavesOthers connection old new

-- a frame of an open connection was received, and was answered as a server of its own would answer
-- it; the frame was lost only if `MayBeLost` allows it
pub record Answers (connection : ℕ) (m : ReceivedFrame) (reply : ReplyFrame)
    (old new : ConnectionsValue) : Type 0 where
  pub stays : StaysOpen connection old new
  pub may : m.lost ≡ true → MayBeLost m.frame
  pub states : (client : ℕ)
      → states_in new connection client
      ≡ state_then (answer old.limits) (states_in old connection) m client
  pub said : reply ≡ reply_in (answer old.limits) (states_in old connection) m
