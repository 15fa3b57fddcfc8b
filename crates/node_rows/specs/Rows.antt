-- Images that agree in some of their rows.
use Rattle.std.specs.Prelude.{ℕ, ◌<◌, ◌≤◌, ◌≡◌, Option, Some}
use Rattle.vx_base.specs.Image.{ImageValue, pixel_at, description_of}
use Rattle.vx_base.specs.Object.{ObjectValue, ImageObject}

-- images of the same size, format and valid rectangle
pub record AreAlike (a b : ImageValue) : Type 0 where
  pub description : description_of a ≡ description_of b
  pub valid : a.valid ≡ b.valid

-- images that are alike, and have the same samples in rows `first` to `last`; rows beyond the
-- images don't count
pub record AgreeInRows (first last : ℕ) (a b : ImageValue) : Type 0 where
  pub alike : AreAlike a b
  pub samples : (x y : ℕ)
      → x < a.width
      → y < a.height
      → first ≤ y
      → y ≤ last
      → pixel_at a x y ≡ pixel_at b x y

-- second operands that agree: two images that agree in rows `first` to `last`, or two equal
-- operands
abbrev pub SecondsAgree : ℕ → ℕ → Option ObjectValue → Option ObjectValue → Type 0
SecondsAgree first last (Some (ImageObject a)) (Some (ImageObject b)) = AgreeInRows first last a b
SecondsAgree first last second other = second ≡ other
