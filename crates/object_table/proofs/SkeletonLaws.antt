-- What the skeleton of an object determines, and writes that keep it.
use Rattle.std.proofs.Common.{◌≡◌, ℕ, List, map, get_or, set, Option, Some, None, arith, refl, sym, ap, ◌∙◌, slice_get}
use Rattle.object_table.proofs.Common.{option_map, get_or_from_slice_get, map-map, ImageValue, description_of, ObjectValue, ImageObject, DelayObject, IsObject, object_kind, object_bytes, image_bytes, in_slot, with_slot, image_skeleton, skeleton, sum_map, option_and_then, slice_get-map, slot_kind}
use Rattle.std.proofs.Math.Seq.{map-set_same}
use Rattle.std.proofs.Math.Path.{fun_ext}
use Rattle.object_table.proofs.SlotLemmas.{IsDelay-set}

-- ---- functions that are determined by another

module _ {X Y Z : Type 0} (f : X → Y) (g : X → Z) (h : Y → Z)
    (determined : (x : X) → h (f x) ≡ g x) where
  -- lists that agree under f agree under g, if f determines g
  pub map-determined : (xs ys : List X) → map f xs ≡ map f ys → map g xs ≡ map g ys
  map-determined xs ys same = sym (through xs) ∙ ap (map h) same ∙ through ys
    where
      through : (l : List X) → map h (map f l) ≡ map g l
      through l = map-map h f l ∙ ap (λ k. map k l) (fun_ext determined)

  -- and of what may be there
  pub option_map-determined : (one other : Option X)
      → option_map f one ≡ option_map f other
      → option_map g one ≡ option_map g other
  option_map-determined one other same = grind (arith, determined)

-- ---- what the skeleton determines

pub kind-skeleton : (object : ObjectValue) → object_kind (skeleton object) ≡ object_kind object
kind-skeleton object = grind arith

pub slot_kind-skeleton : (slot : Option ℕ) (object : ObjectValue)
    → slot_kind slot (skeleton object) ≡ slot_kind slot object
slot_kind-skeleton slot object = grind (arith, kind-skeleton object)

pub bytes-skeleton : (object : ObjectValue) → object_bytes (skeleton object) ≡ object_bytes object
bytes-skeleton (DelayObject images) = sym (sum_map image_bytes image_skeleton images)
bytes-skeleton other = refl

-- the skeleton of the object in a slot is in that slot of the skeleton
pub in_slot-skeleton : (slot : Option ℕ) (object : ObjectValue)
    → in_slot slot (skeleton object) ≡ option_map skeleton (in_slot slot object)
in_slot-skeleton slot object = grind (arith, slice_get-map image_skeleton)

pub slots_alike : (slot : Option ℕ) (one other : Option ObjectValue)
    → option_map skeleton one ≡ option_map skeleton other
    → option_map skeleton (option_and_then (in_slot slot) one)
    ≡ option_map skeleton (option_and_then (in_slot slot) other)
slots_alike slot one other same = grind (arith, in_slot-skeleton slot)

-- ---- what is written

-- an image of the skeleton of the one in its slot leaves those of all
skeletons-set : (images : List ImageValue) (k : ℕ) (image : ImageValue)
    → option_map skeleton (in_slot (Some k) (DelayObject images))
    ≡ Some (skeleton (ImageObject image))
    → map image_skeleton (set images k image) ≡ map image_skeleton images
skeletons-set images k image same =
    map-set_same image_skeleton images k image image (as_there (slice_get images k) refl same)
  where
    as_there : (found : Option ImageValue)
        → slice_get images k ≡ found
        → option_map skeleton (option_map ImageObject found) ≡ Some (skeleton (ImageObject image))
        → image_skeleton image ≡ image_skeleton (get_or images k image)
    as_there None e is = absurd (cc)
    as_there (Some old) e is = grind (arith, get_or_from_slice_get images k old image e)

-- replacing an object in a slot by one of its skeleton keeps the skeleton
pub skeleton-with_slot : (slot : Option ℕ) (new object : ObjectValue)
    → option_map skeleton (in_slot slot object) ≡ Some (skeleton new)
    → skeleton (with_slot slot new object) ≡ skeleton object
skeleton-with_slot slot new object same = grind (arith, skeletons-set)

-- and it leaves an object
pub IsObject-with_slot : (slot : Option ℕ) (new object : ObjectValue)
    → option_map skeleton (in_slot slot object) ≡ Some (skeleton new)
    → IsObject new
    → IsObject object
    → IsObject (with_slot slot new object)
IsObject-with_slot slot new object same is was =
    grind (
      arith,
      IsDelay-set,
      map-determined image_skeleton description_of description_of (λ _. refl),
      skeletons-set,
    )
