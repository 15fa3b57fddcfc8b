-- Sums of the samples up to a column and a row. OpenVX 1.3, "Integral Image".
use Rattle.std.specs.Prelude.{ℕ, ℤ, pos, ◌≡◌, ◌+◌, ◌-◌, ◌%◌, ◌^◌, ◌<◌, ◌≤◌, ◌==◌, if◌then◌else◌, max, nat_le, unsigned_abs, Option, Some, None, List, length, map, slice_index, drop}
use Rattle.std.specs.List.{sum_by}
use Rattle.vx_base.specs.Rectangle.{has_pixel}
use Rattle.vx_base.specs.Image.{ImageValue, IsImage, pixel_at, run, zero_outside}
use Rattle.vx_base.specs.Statistics.{samples_in, sum_to}
use Rattle.image_core.specs.declared.band.Band.{Band}

-- the last row of a list that has `width` items for each row; None if the list is empty
abbrev pub last_row : ℕ → (before : List ℕ) → Option (List ℕ)
last_row width before =
    if length before == 0 then None else Some (drop (length before - width) before)

-- ---- bands that continue from the row above them

-- row `line` of the integral image of an image
abbrev pub sums_row : ImageValue → ℕ → List ℤ
sums_row whole line = run 0 whole.width (λ x. zero_outside whole.valid (sum_to whole) x line)

-- the given row is the row above row `line` of the integral image; it is None if `line` is 0
abbrev pub IsRowAbove : ImageValue → ℕ → Option (List ℕ) → Type 0
IsRowAbove whole line None = line ≡ 0
IsRowAbove whole line (Some row) = (1 ≤ line) × (map pos row ≡ sums_row whole (line - 1))

-- row y of `part` is row `line` of `whole`: both have the same width, valid columns and samples
pub record IsRowOf (part : ImageValue) (y : ℕ) (whole : ImageValue) (line : ℕ) : Type 0 where
  pub width : part.width ≡ whole.width
  pub valid : (x : ℕ) → has_pixel part.valid x y ≡ has_pixel whole.valid x line
  pub samples : (x : ℕ) → x < whole.width → pixel_at part x y ≡ pixel_at whole x line

-- the rows of a band of `part` are rows of the image `whole`, from its row `line` on
pub record AreRowsOf (part : ImageValue) (rows : Band) (whole : ImageValue) (line : ℕ) : Type 0
  where
    pub is : IsImage whole
    pub each : (k : ℕ) → k < rows.count → IsRowOf part (rows.start + k) whole (line + k)

-- ---- sums from the row above a band

-- the sum of the valid samples to the left of column x, in the rows from `start` to y - 1
abbrev pub sum_between : ImageValue → ℕ → ℕ → ℕ → ℕ
sum_between image start x y =
    sum_by unsigned_abs
    (samples_in (record { x0 = image.valid.x0; y0 = max image.valid.y0 start; x1 = x; y1 = y })
    image)

-- the sample of the valid pixel (x, y) of an integral image, where y is at least `start`: the sum
-- of the samples up to column x in rows `start` to y, plus `above x`, modulo 2^32. `above x` is the
-- integral image's sample in the row above row `start`, and counts as 0 if row `start` is above the
-- valid rectangle.
abbrev pub sum_on : ImageValue → ℕ → (ℕ → ℕ) → ℕ → ℕ → ℤ
sum_on image start above x y =
    pos
    (((if nat_le image.valid.y0 start then above x else 0) + sum_between image start (x + 1)
    (y + 1))
    % 2 ^ 32)

-- the sum of the valid samples of row y up to column x
abbrev pub row_total : ImageValue → ℕ → ℕ → ℕ
row_total image x y =
    sum_by unsigned_abs (run image.valid.x0 (x + 1 - image.valid.x0) (λ k. pixel_at image k y))

-- the sample of the valid pixel (x, y) of an integral image, computed from the sample above it,
-- `above x`
abbrev pub next_sum : ImageValue → (ℕ → ℕ) → ℕ → ℕ → ℤ
next_sum image above x y = pos ((above x + row_total image x y) % 2 ^ 32)

-- the sums in a row of an integral image, or 0 in each column if there is no row
abbrev pub row_sums : Option (List ℕ) → ℕ → ℕ
row_sums None x = 0
row_sums (Some row) x = slice_index row x
