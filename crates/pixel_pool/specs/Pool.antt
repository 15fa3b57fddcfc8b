-- The view of a `Pool`: for each format, the number of lent blocks, and the number of free blocks
-- of each class.
use Rattle.std.specs.Prelude.{◌≡◌, ◌≢◌, ◌≤◌, ℕ, ◌+◌, if◌then◌else◌, List, vec_capacity}
use Rattle.vx_base.specs.declared.format.Format.{Format}
use Rattle.vx_base.specs.declared.format.Format.TheVariants.{U8, S16, U32}
use Rattle.vx_base.specs.declared.samples.Samples.{Samples}
use Rattle.vx_base.specs.declared.samples.Samples.TheVariants as samples
use Rattle.vx_base.specs.Sample.{same_format}
use Rattle.pixel_pool.specs.Block.{BlockValue}
use Rattle.pixel_pool.specs.Classes.{FitsIn}
use Rattle.pixel_pool.specs.Free.{free_count, HasBlockFor, LendsSmallest}
use Rattle.pixel_pool.specs.declared.pool.Pool.{Pool}

-- the number of samples for which a block has memory
abbrev pub capacity_of : Samples → ℕ
capacity_of (samples.U8 items) = vec_capacity items
capacity_of (samples.S16 items) = vec_capacity items
capacity_of (samples.U32 items) = vec_capacity items

-- the block has at least as many samples once it is free, if any class has as many
abbrev pub KeepsMemory : BlockValue → Type 0
KeepsMemory block = FitsIn block.count (capacity_of block.samples)

-- the number of lent blocks of a format
abbrev pub lent_of : Pool → Format → ℕ
lent_of p U8 = p.u8s.lent
lent_of p S16 = p.s16s.lent
lent_of p U32 = p.u32s.lent

-- the number of free blocks of a format, for each class
abbrev pub free_of : Pool → Format → List ℕ
free_of p U8 = p.u8s.free
free_of p S16 = p.s16s.free
free_of p U32 = p.u32s.free

-- the number of blocks of a format, lent and free
abbrev pub blocks_of : Pool → Format → ℕ
blocks_of p format = lent_of p format + free_count (free_of p format)

-- 1 if the formats are equal, else 0. Summed over blocks, this is the number of blocks of a format
abbrev pub one_of : Format → Format → ℕ
one_of format other = if same_format format other then 1 else 0

-- at least one block of the format is lent
abbrev pub HasLent : Pool → Format → Type 0
HasLent p format = 1 ≤ lent_of p format

-- one more block of this format is lent than before; other formats' counts are unchanged
abbrev pub Lends : Pool → Pool → Format → Type 0
Lends old new format = (f : Format) → lent_of new f ≡ lent_of old f + one_of format f

-- the free blocks of the other formats are unchanged
abbrev pub KeepsOtherFree : Pool → Pool → Format → Type 0
KeepsOtherFree old new format = (f : Format) → f ≢ format → free_of new f ≡ free_of old f

-- a block of the format for `count` samples was lent: the smallest free one with as many, or if
-- there is none, a new one
pub record LendsBlock (format : Format) (count : ℕ) (old new : Pool) : Type 0 where
  pub lends : Lends old new format
  pub smallest : LendsSmallest count (free_of old format) (free_of new format)
  pub most : blocks_of new format ≤ blocks_of old format + 1
  pub none : HasBlockFor (free_of old format) count → blocks_of new format ≡ blocks_of old format
  pub other_free : KeepsOtherFree old new format

-- one fewer block of this format is lent than before; other formats' counts are unchanged
abbrev pub GetsBack : Pool → Pool → Format → Type 0
GetsBack old new format = (f : Format) → lent_of new f + one_of format f ≡ lent_of old f

-- the number of lent blocks of each format is unchanged
abbrev pub KeepsLent : Pool → Pool → Type 0
KeepsLent old new = (f : Format) → lent_of new f ≡ lent_of old f

-- the total number of blocks of each format, lent and free together, is unchanged
abbrev pub KeepsBlockCounts : Pool → Pool → Type 0
KeepsBlockCounts old new = (f : Format) → blocks_of new f ≡ blocks_of old f
