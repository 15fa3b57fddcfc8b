-- An image's description: its size and format.
use Rattle.std.specs.Prelude.{ℕ, ◌*◌, ◌==◌, Bool, ◌&&◌, nat_le, IsTrue, if◌then◌else◌, Option, Some, None}
use Rattle.vx_base.specs.declared.format.Format.{Format}
use Rattle.vx_base.specs.Sample.{sample_bytes}
use Rattle.vx_base.specs.declared.desc.TheConstants.{GREATEST_SIDE}

-- an image's width and height in pixels, and its format
pub record Description : Type 0 where
  pub width : ℕ
  pub height : ℕ
  pub format : Format

-- whether an image may have this width or height
abbrev pub is_side : ℕ → Bool
is_side n = nat_le 1 n && nat_le n GREATEST_SIDE

-- the description of an image, if its sides are permitted
abbrev pub description : ℕ → ℕ → Format → Option Description
description width height format =
    if is_side width && is_side height then Some
    (record { width = width; height = height; format = format }) else None

-- the number of samples of an image
abbrev pub sample_count : Description → ℕ
sample_count d = d.height * d.width

-- the total size of an image's samples in bytes
abbrev pub byte_count : Description → ℕ
byte_count d = sample_count d * sample_bytes d.format

-- whether two images have the same width and height
abbrev pub same_size : Description → Description → Bool
same_size a b = (a.width == b.width) && (a.height == b.height)

-- a description whose sides are permitted
pub record IsDescription (d : Description) : Type 0 where
  pub width : IsTrue (is_side d.width)
  pub height : IsTrue (is_side d.height)
