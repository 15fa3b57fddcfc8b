-- Images that are found and changed; the context stays within its limits.
use Rattle.std.proofs.Common.{◌≡◌, ℕ, Option, Some, None, IfOk, IfSome, subst, unwrap_or}
use Rattle.client_contexts.proofs.Common.{option_map, option_and_then, U8, Kind, Reference, ImageValue, new_image, ObjectValue, ImageObject, IsObject, object_kind, Context, in_slot, object_held, object_under, HoldsImage, IsImageOf}
use Rattle.vx_base.specs.declared.kind.Kind.TheVariants as kind
use Rattle.vx_base.specs.Image.{IsImage}
use Rattle.object_table.proofs.HeldLemmas.{object_held_has}
use Rattle.client_contexts.specs.Steps.{IsContext}
use Rattle.client_model.proofs.ImageStepLaws.{image_of_is}

-- ---- lookup

-- the image that a reference names is a valid image
pub image_is : (c : Context) (cell : Reference) (image : ImageValue)
    → IsContext c
    → IsImageOf c.objects cell image
    → IsImage image
image_is c cell image h found = subst (λ r. IfOk r IsImage) found.image (image_of_is h.0 c cell h.1)

-- the object with a name is a valid object, if a reference with that name names one
under_is : (found : Option ObjectValue) (slot : Option ℕ) (k : Kind)
    → option_map object_kind (option_and_then (in_slot slot) found) ≡ Some k
    → IfSome found IsObject
    → IsObject (unwrap_or found (ImageObject (new_image 0 0 U8)))
under_is None slot k there is = cc
under_is (Some object) slot k there is = is

-- the object of an image is a valid object
pub holder_is : (c : Context) (cell : Reference)
    → IsContext c
    → HoldsImage c.objects cell
    → IsObject (object_under c.objects cell.name)
holder_is c cell h there =
    under_is (object_held c.objects cell.name) cell.slot kind.Image there
    (object_held_has IsObject c.objects cell.name h.1.objects)

-- what an image that is found is, and the object that has it
pub ruleset image_steps = (image_is, holder_is)
