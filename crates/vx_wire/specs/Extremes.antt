-- The reply to ReadMinMax: the least and the greatest sample, the number of pixels with each, and
-- the first pixel with each.
use Rattle.std.specs.Prelude.{ℕ, List, ◌++◌}
use Rattle.std.specs.Int.{w16, w32, to_be_bytes}
use Rattle.vx_base.specs.declared.format.Format.TheVariants.{S16}
use Rattle.vx_base.specs.declared.extremes.Extremes.{Extremes}
use Rattle.vx_wire.specs.Samples.{encoded_sample}

-- the bytes of a pixel's place: the column, then the row
abbrev pub pixel_bytes : ℕ × ℕ → List ℕ
pixel_bytes place = to_be_bytes w16 place.0 ++ to_be_bytes w16 place.1

-- the body of a reply to ReadMinMax: the minimum, the maximum, the count of each, then the place of
-- the first pixel with each
abbrev pub extremes_bytes : Extremes → List ℕ
extremes_bytes e =
    encoded_sample S16 e.min
    ++ (encoded_sample S16 e.max ++ (to_be_bytes w32 e.min_count ++ (to_be_bytes w32 e.max_count
    ++ (pixel_bytes e.min_at ++ pixel_bytes e.max_at))))
