-- The state of a client.
use Rattle.std.specs.Prelude.{ℕ, ◌+◌, Bool, ◌&&◌, nat_le, Option}
use Rattle.object_table.specs.Context.{Context, charge_of, can_insert}
use Rattle.client_model.specs.Limits.{LimitsValue}

-- a client's state: no context, or the open context
abbrev pub State : Type 0
State = Option Context

-- whether an object with `bytes` bytes of samples can be created: one more object can be held, and
-- the total charge stays within the quota
abbrev pub has_capacity : LimitsValue → Context → ℕ → Bool
has_capacity limits c bytes = can_insert c && nat_le (charge_of c.objects + bytes) limits.quota
