-- The limits on sample bytes: a client's quota, and the limit on a graph's work bytes.
use Rattle.std.specs.Prelude.{ℕ, Bool, ◌&&◌, nat_le, if◌then◌else◌, Option, Some, None}

-- the limits on sample bytes: `quota` for a client's images, `work` for a graph's virtual images
pub record LimitsValue : Type 0 where
  pub quota : ℕ
  pub work : ℕ

-- whether a number of bytes is 1 to 2^40
abbrev pub is_limit : ℕ → Bool
is_limit n = nat_le 1 n && nat_le n 1099511627776

-- the limits with this quota and this limit on work bytes, if each is 1 to 2^40
abbrev pub limits_from : ℕ → ℕ → Option LimitsValue
limits_from quota work =
    if is_limit quota && is_limit work then Some (record { quota = quota; work = work }) else None

-- the default limits: 2^28 bytes each
abbrev pub default_limits : LimitsValue
default_limits = record { quota = 268435456; work = 268435456 }
