-- Bands: consecutive rows of an image.
use Rattle.std.specs.Prelude.{ℕ, ℤ, pos, Bool, ◌+◌, ◌-◌, ◌*◌, ◌≤◌, ◌&&◌, nat_le, nat_lt, List, ◌++◌, replicate}
use Rattle.vx_base.specs.Rectangle.{Rectangle}
use Rattle.vx_base.specs.Description.{Description}
use Rattle.vx_base.specs.Image.{ImageValue, description_of, image_over, band, pixel_at}
use Rattle.image_core.specs.declared.band.Band.{Band}

-- all rows of an image of this height
abbrev pub all_rows : ℕ → Band
all_rows height = record { start = 0; count = height }

-- a band that lies within an image of this height
abbrev pub IsInRows : ℕ → Band → Type 0
IsInRows height rows = rows.start + rows.count ≤ height

-- whether row y is in the band
abbrev pub has_row : Band → ℕ → Bool
has_row rows y = nat_le rows.start y && nat_lt (y - rows.start) rows.count

-- the samples of `count` rows of this width; each sample is 0
abbrev pub zero_rows : ℕ → ℕ → List ℤ
zero_rows width count = replicate (count * width) (pos 0)

-- the image with this description and valid rectangle, and with these samples in the band's rows;
-- all other samples are 0
abbrev pub image_over_rows : Description → Rectangle → Band → List ℤ → ImageValue
image_over_rows d valid rows samples =
    image_over d valid
    (zero_rows d.width rows.start
    ++ (samples ++ zero_rows d.width (d.height - (rows.start + rows.count))))

-- the image, with all samples outside the band's rows set to 0
abbrev pub zero_outside_rows : Band → ImageValue → ImageValue
zero_outside_rows rows image =
    image_over_rows (description_of image) image.valid rows
    (band image.width rows.start rows.count (pixel_at image))

-- the image, with only the band's rows in its list of samples
abbrev pub rows_in : Band → ImageValue → ImageValue
rows_in rows image =
    record {
      width = image.width;
      height = image.height;
      format = image.format;
      valid = image.valid;
      samples = band image.width rows.start rows.count (pixel_at image);
    }
