-- A picture: the samples of a whole image, without a valid rectangle.
use Rattle.std.specs.Prelude.{ℤ, pos, ◌≡◌, List, map, length, All}
use Rattle.vx_base.specs.declared.format.Format.{Format}
use Rattle.vx_base.specs.declared.format.Format.TheVariants.{U8 as FormatU8, S16 as FormatS16, U32 as FormatU32}
use Rattle.vx_base.specs.declared.samples.Samples.{Samples}
use Rattle.vx_base.specs.declared.samples.Samples.TheVariants.{U8, S16, U32}
use Rattle.vx_base.specs.Sample.{IsSample}
use Rattle.vx_base.specs.Rectangle.{whole_rectangle}
use Rattle.vx_base.specs.Description.{Description, IsDescription, sample_count}
use Rattle.vx_base.specs.Image.{ImageValue, description_of, image_over}

-- the samples as numbers
abbrev pub values : Samples → List ℤ
values (U8 samples) = map pos samples.items
values (S16 samples) = samples.items
values (U32 samples) = map pos samples.items

-- the format of the samples
abbrev pub samples_format : Samples → Format
samples_format (U8 samples) = FormatU8
samples_format (S16 samples) = FormatS16
samples_format (U32 samples) = FormatU32

-- a picture; its samples are in row-major order
pub record PictureValue : Type 0 where
  pub description : Description
  pub samples : List ℤ

-- an image's samples as a picture
abbrev pub picture_of : ImageValue → PictureValue
picture_of image = record { description = description_of image; samples = image.samples }

-- a picture as an image that is wholly valid
abbrev pub picture_image : PictureValue → ImageValue
picture_image p =
    image_over p.description (whole_rectangle p.description.width p.description.height) p.samples

-- a picture of permitted size, with a sample of its format for each pixel
pub record IsPicture (p : PictureValue) : Type 0 where
  pub description : IsDescription p.description
  pub size : length p.samples ≡ sample_count p.description
  pub sampled : All (IsSample p.description.format) p.samples

-- samples of the description's format, one for each pixel
pub record Describes (d : Description) (samples : Samples) : Type 0 where
  pub format : samples_format samples ≡ d.format
  pub size : length (values samples) ≡ sample_count d
