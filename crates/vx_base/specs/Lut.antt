-- Lookup tables: one entry for each sample value of a format. OpenVX 1.3, "Object: LUT".
use Rattle.std.specs.Prelude.{ℕ, ℤ, pos, ◌-ℤ◌, ◌==◌, Bool, false, IsTrue, List, length, All, slice_index_or, unsigned_abs}
use Rattle.vx_base.specs.declared.format.Format.{Format}
use Rattle.vx_base.specs.declared.format.Format.TheVariants.{U8, S16, U32}
use Rattle.vx_base.specs.Sample.{min_sample, range_size, IsSample}

-- a lookup table; its entries are in the order of the sample values
pub record LutValue : Type 0 where
  pub format : Format
  pub entries : List ℤ

-- whether `count` is the number of entries of a full table of this format: 256 for U8, 65,536 for
-- S16
abbrev pub is_full : Format → ℕ → Bool
is_full U8 count = count == range_size U8
is_full S16 count = count == range_size S16
is_full U32 count = false

-- the entry for a sample; the first entry is that of the least sample value
abbrev pub entry_for : LutValue → ℤ → ℤ
entry_for lut a = slice_index_or lut.entries (unsigned_abs (a -ℤ min_sample lut.format)) (pos 0)

-- a full table, whose entries are samples of its format
pub record IsLut (lut : LutValue) : Type 0 where
  pub full : IsTrue (is_full lut.format (length lut.entries))
  pub sampled : All (IsSample lut.format) lut.entries
