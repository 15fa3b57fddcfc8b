-- The numbers by which the runtime knows the clients of the connections.
use Rattle.std.specs.Prelude.{◌≡◌, ◌≢◌, ℕ, Bool, is_some, if◌then◌else◌, List, [], map, Option, Some, None, unwrap_or, IsSome, Result, OnOk, OnErr, ⊤}
use Rattle.std.specs.BTreeMap.{is_at, BTreeMap}
use Rattle.std.specs.Map.{lookup}
use Rattle.std.specs.Option.{option_map}
use Rattle.std.specs.Ordering.{nat_cmp}
use Rattle.client_contexts.specs.World.{World, state_of}
use Rattle.client_contexts.specs.declared.memory.NoMemory.{NoMemory}
use Rattle.connections.specs.Connections.{ConnectionsValue}
use Rattle.connections.specs.declared.numbers.Numbers.{Numbers}

-- the numbers of a connection's clients
abbrev pub numbers_of : Numbers → ℕ → List (ℕ × ℕ)
numbers_of n connection =
    unwrap_or
    (option_map (λ (clients : BTreeMap ℕ ℕ). clients.entries)
    (lookup (is_at (nat_cmp connection)) n.connections.entries))
    []

-- the number of a connection's client, if it has one
abbrev pub number_in : Numbers → ℕ → ℕ → Option ℕ
number_in n connection client = lookup (is_at (nat_cmp client)) (numbers_of n connection)

-- the number under which a frame of this client is answered
abbrev pub number_for : Numbers → ℕ → ℕ → ℕ
number_for n connection client = unwrap_or (number_in n connection client) n.spare

-- whether a connection is open
abbrev pub has_connection : Numbers → ℕ → Bool
has_connection n connection = is_some (lookup (is_at (nat_cmp connection)) n.connections.entries)

-- the same connections are open
abbrev pub HasSameConnections : (old new : Numbers) → Type 0
HasSameConnections old new =
    (connection : ℕ) → has_connection new connection ≡ has_connection old connection

-- this connection is open now, or is not open; no other connection, and no number, is changed
pub record SetsOpen (connection : ℕ) (opened : Bool) (old new : Numbers) : Type 0 where
  pub own : has_connection new connection ≡ opened
  pub others : (other : ℕ)
      → other ≢ connection
      → has_connection new other ≡ has_connection old other
  pub numbers : (c k : ℕ) → number_in new c k ≡ number_in old c k
  pub spare : new.spare ≡ old.spare

-- these are two clients
abbrev pub AreTwo : (connection client connection' client' : ℕ) → Type 0
AreTwo c k d j = d ≡ c → j ≢ k

-- this client has this number, and all others have the same as before
pub record Assigns (connection client : ℕ) (number : Option ℕ) (old new : Numbers) : Type 0 where
  pub own : number_in new connection client ≡ number
  pub others : (d j : ℕ) → AreTwo connection client d j → number_in new d j ≡ number_in old d j
  pub connections : HasSameConnections old new

-- exactly the clients that have a number have a context, each under its own number; the spare
-- number has no context
pub record IsNumbering (n : Numbers) (world : World) : Type 0 where
  pub has_context : (c k i : ℕ) → number_in n c k ≡ Some i → IsSome (state_of i world)
  pub one_client : (c k d j i : ℕ)
      → number_in n c k ≡ Some i
      → number_in n d j ≡ Some i
      → (d ≡ c) × (j ≡ k)
  pub has_client : (i : ℕ)
      → IsSome (state_of i world)
      → (c : ℕ) × (k : ℕ) × (number_in n c k ≡ Some i)
  pub spare : state_of n.spare world ≡ None

-- only the state under this number may be another
pub record LeavesOtherNumbers (number : ℕ) (old new : World) : Type 0 where
  pub limits : new.limits ≡ old.limits
  pub states : (other : ℕ) → other ≢ number → state_of other new ≡ state_of other old

-- the context under this number was released
pub record Releases (number : ℕ) (old new : World) : Type 0 where
  pub none : state_of number new ≡ None
  pub others : LeavesOtherNumbers number old new

-- a client has this number if it has a context under it, and else it has none; no other client, and
-- no other state, is changed
pub record Renumbers (connection client number : ℕ) (old new : Numbers) (before after : World) :
    Type 0 where
  pub numbers :
      Assigns connection client (if is_some (state_of number after) then Some number else None)
      old new
  pub spare : state_of new.spare after ≡ None
  pub others : LeavesOtherNumbers number before after

-- the numbers are up to date after a frame; if there is no memory for a new number, the context
-- that the frame opened was released
pub record Settles (connection client number : ℕ) (old new : Numbers) (before after : World)
    (result : Result ⊤ NoMemory) : Type 0 where
  pub renumbers : Renumbers connection client number old new before after
  pub ok : OnOk result (state_of number after ≡ state_of number before)
  pub err :
      OnErr result
      ((state_of number after ≡ None)
      × IsSome (state_of number before)
      × (number_in old connection client ≡ None))

-- the connections as callers see them
abbrev pub connections_view : World → Numbers → ConnectionsValue
connections_view world n = record {
  limits = world.limits;
  connections =
      map
      (λ (e : ℕ × BTreeMap ℕ ℕ). (e.0, map (λ (p : ℕ × ℕ). (p.0, state_of p.1 world)) e.1.entries))
      n.connections.entries;
}
