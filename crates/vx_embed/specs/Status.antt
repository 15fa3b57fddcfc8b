-- The numbers of the results of calls.
use Rattle.std.specs.Prelude.{ℕ}
use Rattle.vx_embed.specs.declared.status.Status.{Status}
use Rattle.vx_embed.specs.declared.status.Status.TheVariants as status

-- the number that C sees
abbrev pub status_number : Status → ℕ
status_number status.Ok = 0
status_number status.TooShort = 1
status_number status.NotAFrame = 2
status_number status.NotOpen = 3
status_number status.AlreadyOpen = 4
status_number status.BadLimits = 5
status_number status.NoMemory = 6
status_number status.NotConnected = 7
