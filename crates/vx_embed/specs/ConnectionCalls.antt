-- The effects of opening and of closing a connection.
use Rattle.std.specs.Prelude.{◌≡◌, ℕ, true, false}
use Rattle.connections.specs.Connections.{ConnectionsValue, Connects, Closes, is_open}
use Rattle.vx_embed.specs.Opens.{StaysHeld}
use Rattle.vx_embed.specs.declared.handle.Handle.{Handle}
use Rattle.vx_embed.specs.declared.status.Status.{Status}
use Rattle.vx_embed.specs.declared.status.Status.TheVariants as status

module _ (connection : ℕ) (old new : ConnectionsValue) where
  -- the connections before and after, and the status
  abbrev pub ConnectResult : Status → Type 0
  ConnectResult status.Ok = Connects connection old new
  ConnectResult status.NoMemory = (new ≡ old) × (connection ≡ 0)
  ConnectResult other = ⊥

  -- the connections before and after, and the status. Memory can't run out
  abbrev pub DisconnectResult : Status → Type 0
  DisconnectResult status.Ok = (is_open old connection ≡ true) × Closes connection old new
  DisconnectResult status.NotConnected = (is_open old connection ≡ false) × (new ≡ old)
  DisconnectResult other = ⊥

module _ (connection : ℕ) (old new : Handle) where
  -- the handle before and after, and the status. `connection` is the number of the new connection
  abbrev pub OpensConnection : Status → Type 0
  OpensConnection status.NotOpen = (old.held ≡ false) × (new ≡ old) × (connection ≡ 0)
  OpensConnection result = StaysHeld old new × ConnectResult connection old.world new.world result

  -- the handle before and after, and the status
  abbrev pub ClosesConnection : Status → Type 0
  ClosesConnection status.NotOpen = (old.held ≡ false) × (new ≡ old)
  ClosesConnection result =
      StaysHeld old new × DisconnectResult connection old.world new.world result
