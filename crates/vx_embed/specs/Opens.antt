-- The effect of opening a handle, and handles that stay open.
use Rattle.std.specs.Prelude.{◌≡◌, ℕ, true, false, [], Some, None}
use Rattle.client_model.specs.Limits.{LimitsValue, limits_from}
use Rattle.vx_embed.specs.declared.handle.Handle.{Handle}
use Rattle.vx_embed.specs.declared.status.Status.{Status}
use Rattle.vx_embed.specs.declared.status.Status.TheVariants as status

-- the handle before and after, and the status. A server is made without connections
abbrev pub Opens : (quota work : ℕ) (old new : Handle) → Status → Type 0
Opens quota work old new status.Ok =
    (limits : LimitsValue)
    × (limits_from quota work ≡ Some limits)
    × (old.held ≡ false)
    × (new.held ≡ true)
    × (new.world ≡ record { limits = limits; connections = [] })
Opens quota work old new status.AlreadyOpen = (old.held ≡ true) × (new ≡ old)
Opens quota work old new status.BadLimits =
    (old.held ≡ false) × (limits_from quota work ≡ None) × (new ≡ old)
Opens quota work old new status.NoMemory = (old.held ≡ false) × (new ≡ old)
Opens quota work old new other = ⊥

-- the handle held a server, and holds one again
abbrev pub StaysHeld : (old new : Handle) → Type 0
StaysHeld old new = (old.held ≡ true) × (new.held ≡ true)
