-- Partial descriptions, with which virtual images are declared. OpenVX 1.3, "Object: Image",
-- vxCreateVirtualImage.
use Rattle.std.specs.Prelude.{ℕ, Bool, true, ◌&&◌, IsTrue, if◌then◌else◌, Option, Some, None}
use Rattle.std.specs.Option.{option_or}
use Rattle.vx_base.specs.declared.format.Format.{Format}
use Rattle.vx_base.specs.Description.{Description, is_side}

-- an image's width, height and format, each of which may be open
pub record PartialDescription : Type 0 where
  pub width : Option ℕ
  pub height : Option ℕ
  pub format : Option Format

-- whether a width or height is open or permitted
abbrev pub may_be_side : Option ℕ → Bool
may_be_side None = true
may_be_side (Some n) = is_side n

-- the partial description with these parts, if its given sides are permitted
abbrev pub partial_description : Option ℕ → Option ℕ → Option Format → Option PartialDescription
partial_description width height format =
    if may_be_side width && may_be_side height then Some
    (record { width = width; height = height; format = format }) else None

-- a description as a partial description with no part open
abbrev pub partial_desc_of : Description → PartialDescription
partial_desc_of d = record { width = Some d.width; height = Some d.height; format = Some d.format }

-- the first partial description, with its open parts taken from the second
abbrev pub with_defaults : PartialDescription → PartialDescription → PartialDescription
with_defaults o other =
    record {
      width = option_or o.width other.width;
      height = option_or o.height other.height;
      format = option_or o.format other.format;
    }

-- the description with these parts, if all are given
abbrev pub described_by : Option ℕ → Option ℕ → Option Format → Option Description
described_by (Some width) (Some height) (Some format) =
    Some (record { width = width; height = height; format = format })
described_by width height format = None

-- the full description, if no part is open
abbrev pub full_description : PartialDescription → Option Description
full_description o = described_by o.width o.height o.format

-- a partial description whose given sides are permitted
abbrev pub IsPartialDescription : PartialDescription → Type 0
IsPartialDescription o = IsTrue (may_be_side o.width && may_be_side o.height)
