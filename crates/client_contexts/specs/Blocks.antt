-- The blocks of the pool that hold samples of the clients' images.
use Rattle.std.specs.Prelude.{ℕ, ◌≡◌, List, sum_by, All}
use Rattle.std.specs.Map.{values_of}
use Rattle.vx_base.specs.declared.format.Format.{Format}
use Rattle.pixel_pool.specs.declared.pool.Pool.{Pool}
use Rattle.pixel_pool.specs.Pool.{lent_of}
use Rattle.object_table.specs.Blocks.{blocks_in}
use Rattle.client_model.specs.Limits.{LimitsValue}
use Rattle.client_model.specs.States.{KeepsLimits}
use Rattle.client_contexts.specs.World.{ClientContext}

-- the number of blocks of a format that hold samples of the clients' images: one for each image and
-- each slot of a delay
abbrev pub clients_blocks : List (ℕ × ClientContext) → Format → ℕ
clients_blocks contexts format = sum_by (λ c. blocks_in c.1.context.objects format) contexts

-- all contexts keep the limits. Of each format, the pool has lent `clients_blocks` blocks.
pub record IsRuntime (limits : LimitsValue) (contexts : List (ℕ × ClientContext)) (pool : Pool)
    : Type 0 where
  pub keeps : All (λ o. KeepsLimits limits o.context) (values_of contexts)
  pub lent : (format : Format) → lent_of pool format ≡ clients_blocks contexts format
