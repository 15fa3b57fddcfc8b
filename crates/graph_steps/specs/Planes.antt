-- Planes: images while a graph runs. A plane's block of samples holds some or all rows of the
-- image. The plane of a slot holds one virtual image after another.
use Rattle.std.specs.Prelude.{ℕ, ℤ, ◌+◌, ◌-◌, ◌*◌, ◌≤◌, ◌≡◌, min, List, [], ◌++◌, take, drop, length, slice_index_or}
use Rattle.vx_base.specs.declared.format.Format.{Format}
use Rattle.vx_base.specs.declared.format.Format.TheVariants.{U8}
use Rattle.vx_base.specs.declared.samples.Samples.{Samples}
use Rattle.vx_base.specs.Picture.{values, samples_format}
use Rattle.vx_base.specs.Description.{Description}
use Rattle.vx_base.specs.Rectangle.{Rectangle, empty_rectangle, IsWithin}
use Rattle.vx_base.specs.Image.{ImageValue, IsImage, image_over, band, pixel_at}
use Rattle.image_core.specs.declared.band.Band.{Band}
use Rattle.image_core.specs.Bands.{IsInRows, all_rows, image_over_rows}

-- a plane: the whole image's description and valid rectangle, the rows that a step may read, and a
-- block of samples. The block has samples of `format`, and begins with row `top` of the image.
pub record PlaneValue : Type 0 where
  pub desc : Description
  pub valid : Rectangle
  pub top : ℕ
  pub rows : Band
  pub format : Format
  pub samples : List ℤ

-- the samples of these rows, in a block that begins with row `top` and has this width
abbrev pub rows_of_block : ℕ → ℕ → Band → List ℤ → List ℤ
rows_of_block width top rows samples =
    take (rows.count * width) (drop ((rows.start - top) * width) samples)

-- the image that a step reads; samples outside the plane's readable rows are 0
abbrev pub plane_image : PlaneValue → ImageValue
plane_image p =
    image_over_rows p.desc p.valid p.rows (rows_of_block p.desc.width p.top p.rows p.samples)

-- the image over all samples of the plane's block, which has all rows if the image is a client's
abbrev pub block_image : PlaneValue → ImageValue
block_image p = image_over p.desc p.valid p.samples

-- the plane, with these rows as its readable rows
abbrev pub with_read_rows : Band → PlaneValue → PlaneValue
with_read_rows rows p = record p { rows = rows }

-- a block that begins with row `top`, after these rows of an image are written to it
abbrev pub written_among : ℕ → Band → ImageValue → List ℤ → List ℤ
written_among top rows image old =
    take ((rows.start - top) * image.width) old
    ++
    (band image.width rows.start rows.count (pixel_at image)
    ++ drop ((rows.start - top + rows.count) * image.width) old)

-- the plane after these rows of an image are written to it; only these rows are then readable, and
-- the plane has the image's valid rectangle
abbrev pub with_rows : Band → ImageValue → PlaneValue → PlaneValue
with_rows rows image p =
    record {
      desc = p.desc;
      valid = image.valid;
      top = p.top;
      rows = rows;
      format = p.format;
      samples = written_among p.top rows image p.samples;
    }

-- the plane of a client's image, with all rows
abbrev pub whole_plane : Description → Rectangle → Samples → PlaneValue
whole_plane d valid block =
    record {
      desc = d;
      valid = valid;
      top = 0;
      rows = all_rows d.height;
      format = samples_format block;
      samples = values block;
    }

-- the plane of a slot, which holds no virtual image yet; its description isn't used
abbrev pub slot_plane : Samples → PlaneValue
slot_plane block =
    record {
      desc = record { width = 1; height = 1; format = U8 };
      valid = empty_rectangle;
      top = 0;
      rows = all_rows 0;
      format = samples_format block;
      samples = values block;
    }

-- the plane as it begins to hold a virtual image of this description, in a block that begins with
-- row `top`; the valid rectangle becomes empty
abbrev pub with_description : Description → ℕ → PlaneValue → PlaneValue
with_description d top p =
    record {
      desc = d;
      valid = empty_rectangle;
      top = top;
      rows = p.rows;
      format = p.format;
      samples = p.samples;
    }

-- the plane after its block is taken away
abbrev pub without_block : PlaneValue → PlaneValue
without_block p = record p { samples = [] }

-- ---- many planes

-- the plane at an index outside the list
abbrev pub no_plane : PlaneValue
no_plane =
    record {
      desc = record { width = 0; height = 0; format = U8 };
      valid = empty_rectangle;
      top = 0;
      rows = all_rows 0;
      format = U8;
      samples = [];
    }

-- the plane at an index
abbrev pub plane : List PlaneValue → ℕ → PlaneValue
plane planes c = slice_index_or planes c no_plane

-- the image that a step reads in each plane
abbrev pub read_images : List PlaneValue → ℕ → ImageValue
read_images planes c = plane_image (plane planes c)

-- the image in each plane's block
abbrev pub block_images : List PlaneValue → ℕ → ImageValue
block_images planes c = block_image (plane planes c)

-- a step can read the plane
pub record IsReadable (p : PlaneValue) : Type 0 where
  pub format : p.format ≡ p.desc.format
  pub rows : IsInRows p.desc.height p.rows
  pub top : p.top ≤ p.rows.start
  pub room : (p.rows.start - p.top + p.rows.count) * p.desc.width ≤ length p.samples
  pub image : IsImage (plane_image p)

-- the plane's block has all rows of the image
pub record IsWhole (p : PlaneValue) : Type 0 where
  pub format : p.format ≡ p.desc.format
  pub top : p.top ≡ 0
  pub size : length p.samples ≡ p.desc.height * p.desc.width
  pub valid : IsWithin p.valid p.desc.width p.desc.height

-- these rows can be written to the plane
pub record TakesRows (rows : Band) (p : PlaneValue) : Type 0 where
  pub format : p.format ≡ p.desc.format
  pub within : IsInRows p.desc.height rows
  pub valid : IsWithin p.valid p.desc.width p.desc.height
  pub top : p.top ≤ rows.start
  pub room : (rows.start - p.top + rows.count) * p.desc.width ≤ length p.samples

-- ---- bands

-- a band with a halo above and below it, clipped to an image of this height
abbrev pub with_halo : ℕ → ℕ → Band → Band
with_halo halo height rows =
    let start = min (rows.start - halo) height in
    record { start = start; count = min (rows.start + rows.count + halo) height - start }
