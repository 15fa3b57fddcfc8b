-- All clients: their open contexts, and their caches of verified graphs.
use Rattle.std.specs.Prelude.{ℕ, List, [], unwrap_or}
use Rattle.std.specs.BTreeMap.{is_at}
use Rattle.std.specs.Map.{lookup}
use Rattle.std.specs.Option.{option_map}
use Rattle.std.specs.Ordering.{nat_cmp}
use Rattle.object_table.specs.Context.{Context}
use Rattle.client_model.specs.Limits.{LimitsValue}
use Rattle.client_model.specs.Context.{State}

-- an open context, and the names of the graphs in its cache, each with the limit on work bytes with
-- which the graph was verified. The model's replies and states don't depend on the cache.
pub record ClientContext : Type 0 where
  pub context : Context
  pub verified : List (ℕ × ℕ)

-- the limits, and the open contexts with their clients
pub record World : Type 0 where
  pub limits : LimitsValue
  pub contexts : List (ℕ × ClientContext)

-- a client's state
abbrev pub state_of : ℕ → World → State
state_of client world = option_map (λ o. o.context) (lookup (is_at (nat_cmp client)) world.contexts)

-- the graphs in a client's cache, each with its limit on work bytes; none if the client has no
-- context
abbrev pub verified_of : ℕ → World → List (ℕ × ℕ)
verified_of client world =
    unwrap_or (option_map (λ o. o.verified) (lookup (is_at (nat_cmp client)) world.contexts)) []
