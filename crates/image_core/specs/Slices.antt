-- The format and the samples of a `Slice`.
use Rattle.std.specs.Prelude.{ℕ, ℤ, pos, List, map}
use Rattle.vx_base.specs.declared.format.Format.{Format}
use Rattle.vx_base.specs.declared.format.Format.TheVariants as format
use Rattle.image_core.specs.declared.slice.Slice.{Slice}
use Rattle.image_core.specs.declared.slice.Slice.TheVariants.{U8, S16, U32}

-- the format of the samples in a slice
abbrev pub slice_format : Slice → Format
slice_format (U8 samples) = format.U8
slice_format (S16 samples) = format.S16
slice_format (U32 samples) = format.U32

-- the samples in a slice, as integers
abbrev pub slice_values : Slice → List ℤ
slice_values (U8 samples) = map pos samples.now
slice_values (S16 samples) = samples.now
slice_values (U32 samples) = map pos samples.now

-- the samples in the slice of this format, given the slices of all three formats
abbrev pub slice_of : Format → (bytes : List ℕ) (shorts : List ℤ) (words : List ℕ) → List ℤ
slice_of format.U8 bytes shorts words = map pos bytes
slice_of format.S16 bytes shorts words = shorts
slice_of format.U32 bytes shorts words = map pos words
