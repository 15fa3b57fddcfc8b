-- Samples in row-major order.
use Rattle.std.specs.Prelude.{ℕ, ℤ, pos, ◌+◌, ◌-◌, ◌*◌, List, slice_index_or}
use Rattle.vx_base.specs.Image.{ImageValue, run, pixel_at}

-- the samples of a row
abbrev pub row_of : ImageValue → ℕ → List ℤ
row_of image y = run 0 image.width (λ x. pixel_at image x y)

-- the sample in column x of row y, given the samples of rows of this width
abbrev pub sample_at : ℕ → List ℤ → ℕ → ℕ → ℤ
sample_at width samples x y = slice_index_or samples (y * width + x) (pos 0)

-- the sample in column x of row y, given the samples of a band that begins at row `start`
abbrev pub sample_from : ℕ → ℕ → List ℤ → ℕ → ℕ → ℤ
sample_from width start samples x y = sample_at width samples x (y - start)
