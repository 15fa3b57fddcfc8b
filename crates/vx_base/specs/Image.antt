-- An image value: a size, a format, a valid rectangle, and a sample for each pixel.
use Rattle.std.specs.Prelude.{ℕ, ℤ, pos, ◌+◌, ◌*◌, ◌<◌, ◌≡◌, false, List, map, length, slice_index_or, if◌then◌else◌}
use Rattle.std.specs.List.{range_with_len, flat_map}
use Rattle.vx_base.specs.declared.format.Format.{Format}
use Rattle.vx_base.specs.Sample.{IsSample}
use Rattle.vx_base.specs.Rectangle.{Rectangle, has_pixel, whole_rectangle, IsCanonical, IsWithin}
use Rattle.vx_base.specs.Description.{Description, IsDescription}

-- the n values f x, f (x + 1), ..
abbrev pub run : ℕ → ℕ → (ℕ → ℤ) → List ℤ
run x n f = map f (range_with_len x n)

-- the values of f at the pixels of `count` rows, from row `start`, in row-major order
abbrev pub band : ℕ → ℕ → ℕ → (ℕ → ℕ → ℤ) → List ℤ
band width start count f = flat_map (λ y. run 0 width (λ x. f x y)) (range_with_len start count)

-- the values of f at all pixels of an image of this width and height, in row-major order
abbrev pub table : ℕ → ℕ → (ℕ → ℕ → ℤ) → List ℤ
table width height f = band width 0 height f

-- f at the pixels of the rectangle, 0 elsewhere
abbrev pub zero_outside : Rectangle → (ℕ → ℕ → ℤ) → ℕ → ℕ → ℤ
zero_outside r f x y = if has_pixel r x y then f x y else pos 0

-- an image; its samples are in row-major order
pub record ImageValue : Type 0 where
  pub width : ℕ
  pub height : ℕ
  pub format : Format
  pub valid : Rectangle
  pub samples : List ℤ

-- the description of an image: its size and format
abbrev pub description_of : ImageValue → Description
description_of image = record { width = image.width; height = image.height; format = image.format }

-- the image with this description, valid rectangle and samples
abbrev pub image_over : Description → Rectangle → List ℤ → ImageValue
image_over d valid samples = record {
  width = d.width;
  height = d.height;
  format = d.format;
  valid = valid;
  samples = samples;
}

-- the sample in column x of row y
abbrev pub pixel_at : ImageValue → ℕ → ℕ → ℤ
pixel_at image x y = slice_index_or image.samples (y * image.width + x) (pos 0)

-- an image of permitted size, with a sample of its format for each pixel. The valid rectangle is
-- canonical and within the image. The samples outside the rectangle are 0.
pub record IsImage (image : ImageValue) : Type 0 where
  pub sides : IsDescription (description_of image)
  pub size : length image.samples ≡ image.height * image.width
  pub canonical : IsCanonical image.valid
  pub room : IsWithin image.valid image.width image.height
  pub sampled : (x y : ℕ)
      → x < image.width
      → y < image.height
      → IsSample image.format (pixel_at image x y)
  pub outside : (x y : ℕ)
      → x < image.width
      → y < image.height
      → has_pixel image.valid x y ≡ false
      → pixel_at image x y ≡ pos 0

-- the image whose samples are f in the valid rectangle and 0 elsewhere
abbrev pub image_from : ℕ → ℕ → Format → Rectangle → (ℕ → ℕ → ℤ) → ImageValue
image_from width height format valid f =
    record {
      width = width;
      height = height;
      format = format;
      valid = valid;
      samples = table width height (zero_outside valid f);
    }

-- a new image: wholly valid, all samples 0
abbrev pub new_image : ℕ → ℕ → Format → ImageValue
new_image width height format =
    image_from width height format (whole_rectangle width height) (λ _ _. pos 0)

-- the image with another valid rectangle; the samples outside it become 0
abbrev pub with_valid : Rectangle → ImageValue → ImageValue
with_valid valid image = image_from image.width image.height image.format valid (pixel_at image)
