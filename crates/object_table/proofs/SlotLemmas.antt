-- Objects in slots, and writes to slots.
use Rattle.std.proofs.Common.{◌≡◌, ◌≢◌, ℕ, IsTrue, List, length, map, set, Option, Some, None, IfSome, refl, sym, subst, arith, is_some, slice_get, length-set, set-set, get_or-set_same, get_or-set_other}
use Rattle.object_table.proofs.Common.{option_map, AllPairs, cases_lt, get_or_from_slice_get, Description, ImageValue, IsImage, description_of, ObjectValue, ImageObject, GraphObject, DelayObject, IsObject, IsDelay, object_kind, in_slot, object_in, with_slot, HasImage, graph_value, image_value, All-set, slice_get-get_or, slice_get_past, slice_get_within, Kind}

-- ---- objects in slots

-- a slot that exists has its object
pub there_is : (slot : Option ℕ) (object : ObjectValue)
    → IsTrue (is_some (in_slot slot object))
    → in_slot slot object ≡ Some (object_in slot object)
there_is slot object h = grind arith

pub image_of_kind : (object : ObjectValue)
    → object_kind object ≡ Kind.Image
    → object ≡ ImageObject (image_value object)
image_of_kind object h = grind arith

pub graph_of_kind : (object : ObjectValue)
    → object_kind object ≡ Kind.Graph
    → object ≡ GraphObject (graph_value object)
graph_of_kind object h = grind arith

-- a slot with an image exists, and its object is that image
pub image_there : (slot : Option ℕ) (object : ObjectValue)
    → HasImage slot object
    → IsTrue (is_some (in_slot slot object))
    × (object_in slot object ≡ ImageObject (image_value (object_in slot object)))
image_there slot object h = grind (arith, image_of_kind)

-- the object in a slot is valid
pub IsObject-in_slot : (slot : Option ℕ) (object : ObjectValue)
    → IsObject object
    → IfSome (in_slot slot object) IsObject
IsObject-in_slot None object h = h
IsObject-in_slot (Some k) (DelayObject images) h =
    image_is (slice_get images k) (λ image e. let w = slice_get_within images k image e in
    subst IsImage (get_or_from_slice_get images k image image e) (h.each k image w))
  where
    image_is : (found : Option ImageValue)
        → ((image : ImageValue) → found ≡ Some image → IsImage image)
        → IfSome (option_map ImageObject found) IsObject
    image_is found h = grind arith
IsObject-in_slot (Some k) other h = tt

-- ---- what is written

-- an image in a slot, and another over it
pub with_slot_twice : (slot : Option ℕ) (image : ImageValue) (left object : ObjectValue)
    → with_slot slot (ImageObject image) (with_slot slot left object)
    ≡ with_slot slot (ImageObject image) object
with_slot_twice slot image left object = grind (arith, set-set)

-- an image that is written to a slot is in it
pub with_slot_there : (slot : Option ℕ) (image : ImageValue) (object : ObjectValue)
    → HasImage slot object
    → in_slot slot (with_slot slot (ImageObject image) object) ≡ Some (ImageObject image)
with_slot_there None image object h = refl
with_slot_there (Some k) image (DelayObject images) h =
    grind (
      arith,
      slice_get-get_or (set images k image) k image,
      get_or-set_same images k image image,
      length-set images k image,
      slice_get_past images k,
      cases_lt k (length images),
    )
with_slot_there (Some k) image other h = cc

-- other slots don't change
pub with_slot_elsewhere : (j k : ℕ) (new object : ObjectValue)
    → j ≢ k
    → in_slot (Some j) (with_slot (Some k) new object) ≡ in_slot (Some j) object
with_slot_elsewhere j k (ImageObject image) (DelayObject images) apart =
    grind (
      arith,
      slice_get-get_or (set images k image) j image,
      slice_get-get_or images j image,
      get_or-set_other images k j image image,
      length-set images k image,
      slice_get_past images j,
      slice_get_past (set images k image) j,
      cases_lt j (length images),
    )
with_slot_elsewhere j k new object apart = refl

-- images of the same descriptions leave a delay
pub IsDelay-set : (images : List ImageValue) (k : ℕ) (image : ImageValue)
    → IsDelay images
    → IsImage image
    → map description_of (set images k image) ≡ map description_of images
    → IsDelay (set images k image)
IsDelay-set images k image h is same =
    record {
      least = omega (arith, h.least, length-set images k image);
      greatest = omega (arith, h.greatest, length-set images k image);
      each = All-set IsImage images k image is h.each;
      alike = subst (λ (l : List Description). AllPairs (λ d e. d ≡ e) l) (sym same) h.alike;
    }
