-- What a window reads in a row of an image, border included. OpenVX 1.3, `vx_border_e`.
use Rattle.std.specs.Prelude.{ℕ, ℤ, pos, ◌-◌, ◌&&◌, Option, Some, None, int_lt, int_le, unsigned_abs, if◌then◌else◌}
use Rattle.vx_base.specs.declared.border.Border.{Border}
use Rattle.vx_base.specs.declared.border.Border.TheVariants.{Undefined, Constant, Replicate}
use Rattle.vx_base.specs.Rectangle.{Rectangle}
use Rattle.vx_base.specs.Image.{ImageValue, pixel_at}
use Rattle.vx_base.specs.Window.{clamp_coordinate}

-- the border's sample next to a valid edge sample
abbrev pub border_value : Border → ℤ → ℤ
border_value Undefined edge = pos 0
border_value (Constant value) edge = pos value
border_value Replicate edge = edge

-- the valid row that a window reads instead of a row y outside the valid rectangle; None unless the
-- border is Replicate
abbrev pub border_row : Rectangle → Border → ℤ → Option ℕ
border_row valid Undefined y = None
border_row valid (Constant value) y = None
border_row valid Replicate y = Some (clamp_coordinate valid.y0 valid.y1 y)

-- the valid row that a window reads for row y: row y itself if it is valid, else the result of
-- border_row
abbrev pub row_seen : Rectangle → Border → ℤ → Option ℕ
row_seen valid border y =
    if int_le (pos valid.y0) y && int_lt y (pos valid.y1) then Some (unsigned_abs y) else
    border_row valid border y

-- the sample that a window reads in column x along the valid row `line`: the image's sample if
-- column x is valid, else the border's
abbrev pub seen_along : ImageValue → Border → ℕ → ℤ → ℤ
seen_along image border line x =
    if int_lt x (pos image.valid.x0) then border_value border (pixel_at image image.valid.x0 line)
    else if int_lt x (pos image.valid.x1) then pixel_at image (unsigned_abs x) line
    else border_value border (pixel_at image (image.valid.x1 - 1) line)
