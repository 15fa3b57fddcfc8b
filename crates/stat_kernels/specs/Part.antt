-- The valid samples of a band and of a row.
use Rattle.std.specs.Prelude.{ℕ, ℤ, ◌+◌, ◌-◌, min, max, ◌&&◌, nat_le, nat_lt, if◌then◌else◌, List}
use Rattle.vx_base.specs.Image.{ImageValue, pixel_at, run}
use Rattle.vx_base.specs.Rectangle.{Rectangle}
use Rattle.image_core.specs.declared.band.Band.{Band}

-- the part of a rectangle that lies in the rows of a band
abbrev pub band_of : Band → Rectangle → Rectangle
band_of rows r =
    let top = max r.y0 rows.start in
    record { x0 = r.x0; y0 = top; x1 = r.x1; y1 = max top (min r.y1 (rows.start + rows.count)) }

-- the image with its valid rectangle cut to a band
abbrev pub valid_in : Band → ImageValue → ImageValue
valid_in rows image = record image { valid = band_of rows image.valid }

-- the number of pixels of a rectangle in row y
abbrev pub columns_in : Rectangle → ℕ → ℕ
columns_in r y = if nat_le r.y0 y && nat_lt y r.y1 then r.x1 - r.x0 else 0

-- the valid samples of row y
abbrev pub valid_run : ImageValue → ℕ → List ℤ
valid_run image y = run image.valid.x0 (columns_in image.valid y) (λ x. pixel_at image x y)
