-- A row of an image with the border's samples on both sides.
use Rattle.std.specs.Prelude.{ℕ, ℤ, List}

-- a row of `width + 2 * radius` samples; the first sample is `radius` columns left of the image
pub record RowWindowValue : Type 0 where
  pub width : ℕ
  pub radius : ℕ
  pub samples : List ℤ
