-- Delays and their slots. OpenVX 1.3, "Object: Delay".
use Rattle.std.specs.Prelude.{ℕ, ◌≡◌, ◌≤◌, ◌-◌, List, ◌++◌, length, take, drop, replicate, slice_get, slice_index_or, slice_set, All, Option, Some, None, unwrap_or}
use Rattle.std.specs.Option.{option_map}
use Rattle.vx_base.specs.declared.format.Format.TheVariants.{U8}
use Rattle.vx_base.specs.declared.kind.Kind.{Kind}
use Rattle.vx_base.specs.declared.kind.Kind.TheVariants as kind
use Rattle.vx_base.specs.Description.{Description}
use Rattle.vx_base.specs.Image.{ImageValue, new_image, description_of}
use Rattle.vx_base.specs.Object.{ObjectValue, ImageObject, DelayObject, object_kind}

-- the new images of a delay, one for each slot
abbrev pub new_delay : Description → ℕ → List ImageValue
new_delay d slots = replicate slots (new_image d.width d.height d.format)

-- the images of a delay after it has aged once: each image moves to the next slot, the last image
-- to slot 0. OpenVX 1.3, vxAgeDelay
abbrev pub aged_images : List ImageValue → List ImageValue
aged_images images = drop (length images - 1) images ++ take (length images - 1) images

-- the image in a slot; an image without pixels if the slot doesn't exist
abbrev pub image_in : List ImageValue → ℕ → ImageValue
image_in images k = slice_index_or images k (new_image 0 0 U8)

-- the image in a slot of a delay, or None if the slot doesn't exist or the object isn't a delay;
-- without a slot, the object itself
abbrev pub in_slot : Option ℕ → ObjectValue → Option ObjectValue
in_slot None object = Some object
in_slot (Some k) (DelayObject images) = option_map ImageObject (slice_get images k)
in_slot (Some k) other = None

-- the object with the image in a slot replaced by `new`; the unchanged object if the slot doesn't
-- exist or `new` isn't an image; without a slot, `new` itself
abbrev pub with_slot : Option ℕ → ObjectValue → ObjectValue → ObjectValue
with_slot None new object = new
with_slot (Some k) (ImageObject image) (DelayObject images) = DelayObject (slice_set images k image)
with_slot slot new object = object

-- the kind of the object in a slot: Image for a slot of a delay, whether the slot exists or not;
-- None for a slot of another object; without a slot, the kind of the object itself
abbrev pub slot_kind : Option ℕ → ObjectValue → Option Kind
slot_kind None object = Some (object_kind object)
slot_kind (Some k) (DelayObject images) = Some kind.Image
slot_kind (Some k) other = None

-- the object in a slot, or an image without pixels if there is no such slot; without a slot, the
-- object itself
abbrev pub object_in : Option ℕ → ObjectValue → ObjectValue
object_in slot object = unwrap_or (in_slot slot object) (ImageObject (new_image 0 0 U8))

-- the slot exists and has an image; without a slot, the object is an image
abbrev pub HasImage : Option ℕ → ObjectValue → Type 0
HasImage slot object = option_map object_kind (in_slot slot object) ≡ Some kind.Image

-- the invariant of a delay: 1 to 16 images of one description
pub record AreSlots (d : Description) (images : List ImageValue) : Type 0 where
  pub least : 1 ≤ length images
  pub greatest : length images ≤ 16
  pub alike : All (λ image. description_of image ≡ d) images
