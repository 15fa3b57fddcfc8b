-- The view of a `Block`.
use Rattle.std.specs.Prelude.{◌≡◌, ◌⊎◌, ℕ, length}
use Rattle.vx_base.specs.declared.samples.Samples.{Samples}
use Rattle.vx_base.specs.Picture.{values}

-- a block's samples, and the number of samples that the pool lent
pub record BlockValue : Type 0 where
  pub samples : Samples
  pub count : ℕ

-- the block has all its samples: they aren't lifted
abbrev pub HasAllSamples : BlockValue → Type 0
HasAllSamples block = length (values block.samples) ≡ block.count

-- a number of samples is that of a whole block, or 0 as while the block's samples are lifted
abbrev pub IsAllOrNone : ℕ → ℕ → Type 0
IsAllOrNone count samples = (samples ≡ 0) ⊎ (samples ≡ count)
