-- Output images.
use Rattle.std.specs.Prelude.{◌≡◌, ◌*◌, length}
use Rattle.vx_base.specs.Image.{ImageValue, image_over}
use Rattle.image_core.specs.declared.image_mut.ImageMut.{ImageMut}
use Rattle.image_core.specs.Slices.{slice_of}
use Rattle.image_core.specs.Bands.{IsInRows, rows_in}

-- the output as an image value, which has only the samples of the output's band
abbrev pub target_image : ImageMut → ImageValue
target_image image =
    image_over image.desc image.valid
    (slice_of image.desc.format image.bytes.now image.shorts.now image.words.now)

-- an output whose band lies within the image, with one sample for each pixel of the band
pub record IsTarget (image : ImageMut) : Type 0 where
  pub size : length (target_image image).samples ≡ image.rows.count * image.desc.width
  pub rows : IsInRows image.desc.height image.rows

-- the output has the same band and the same slices as before
pub record SameSlices (old new : ImageMut) : Type 0 where
  pub rows : new.rows ≡ old.rows
  pub bytes : new.bytes.ghost_name ≡ old.bytes.ghost_name
  pub shorts : new.shorts.ghost_name ≡ old.shorts.ghost_name
  pub words : new.words.ghost_name ≡ old.words.ghost_name

-- the output becomes this image, cut to the output's band, and keeps its band and its slices
pub record Writes (image : ImageValue) (old new : ImageMut) : Type 0 where
  pub value : target_image new ≡ rows_in old.rows image
  pub target : IsTarget new
  pub slices : SameSlices old new
