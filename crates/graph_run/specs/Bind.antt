-- Images that move from a table to planes for a run of a graph, and then back.
use Rattle.std.specs.Prelude.{◌≡◌, ⊤, List, [], ◌∷◌, length, map, zip}
use Rattle.vx_base.specs.Description.{sample_count}
use Rattle.vx_base.specs.Reference.{Reference}
use Rattle.vx_base.specs.Image.{ImageValue, image_over, description_of}
use Rattle.vx_base.specs.Object.{ObjectValue, ImageObject}
use Rattle.image_core.specs.Bands.{all_rows}
use Rattle.pixel_pool.specs.Block.{IsAllOrNone}
use Rattle.object_table.specs.NamedObject.{NamedObject}
use Rattle.object_table.specs.Table.{HoldsImage, image_held}
use Rattle.graph_verify.specs.Members.{In}
use Rattle.graph_steps.specs.Planes.{PlaneValue, block_image}
use Rattle.graph_run.specs.Steps.{AreApart}

-- each reference names an image
abbrev pub HoldImages : List NamedObject → List Reference → Type 0
HoldImages objects cells = (c : Reference) → In c cells → HoldsImage objects c

-- any two of the references name objects that can be written independently
abbrev pub AreAllApart : List Reference → Type 0
AreAllApart [] = ⊤
AreAllApart (c ∷ cells) = ((p : Reference) → In p cells → AreApart p c) × AreAllApart cells

-- the image that stays in the table while its samples are in a plane
abbrev pub without_samples : ImageValue → ImageValue
without_samples image = image_over (description_of image) image.valid []

-- the references, each with its image after the samples are taken away
abbrev pub bare_images : List NamedObject → List Reference → List (Reference × ObjectValue)
bare_images objects [] = []
bare_images objects (c ∷ cells) =
    (c, ImageObject (without_samples (image_held objects c))) ∷ bare_images objects cells

-- the plane of a whole image
abbrev pub image_plane : ImageValue → PlaneValue
image_plane image =
    record {
      desc = description_of image;
      valid = image.valid;
      top = 0;
      rows = all_rows image.height;
      format = image.format;
      samples = image.samples;
    }

-- the planes of the images that the references name
abbrev pub image_planes : List NamedObject → List Reference → List PlaneValue
image_planes objects cells = map (λ c. image_plane (image_held objects c)) cells

-- the image of a plane as an object
abbrev pub plane_object : PlaneValue → ObjectValue
plane_object p = ImageObject (block_image p)

-- the references, each with the image of its plane
abbrev pub plane_objects : List Reference → List PlaneValue → List (Reference × ObjectValue)
plane_objects cells planes = zip cells (map plane_object planes)

-- there is a plane for each reference, with the description of the reference's image, and with a
-- block of the image's format and number of samples, or without samples
abbrev pub AreFor : List NamedObject → List Reference → List PlaneValue → Type 0
AreFor objects [] planes = ⊤
AreFor objects (c ∷ cells) [] = ⊥
AreFor objects (c ∷ cells) (p ∷ planes) =
    (p.desc ≡ description_of (image_held objects c)) × (p.format ≡ p.desc.format)
    × IsAllOrNone (sample_count p.desc) (length p.samples) × AreFor objects cells planes
