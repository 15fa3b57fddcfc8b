-- Writes and reads of images keep the limits, and what is held.
use Rattle.std.proofs.Common.{ℕ, ◌≡◌, false, List, Option, Some, None, Result, Ok, Err, IfOk, refl, ap, ◌∙◌, arith, not}
use Rattle.client_model.proofs.Common.{option_map, and_parts, Reference, Description, ImageValue, IsImage, description_of, ImageObject, NamedObject, object_at, with_object, Context, with_objects, Refusal, Empty, LimitsValue, image_of, KeepsLimits, lasting_part, images-last, held_is, passed, reply_unless}
use Rattle.vx_base.specs.Sample.{same_format}
use Rattle.vx_base.specs.Rectangle.{Rectangle, IsCanonical, IsWithin}
use Rattle.vx_base.specs.Image.{with_valid}
use Rattle.vx_base.specs.Picture.{PictureValue, IsPicture, picture_image}
use Rattle.vx_base.proofs.ImageLaws.{with_valid_is}
use Rattle.vx_base.proofs.PictureLaws.{pictured_image}
use Rattle.client_model.specs.declared.refusal.Refusal.TheVariants.{InvalidFormat}
use Rattle.pgm_images.specs.declared.fault.PgmFault.{PgmFault}
use Rattle.pgm_images.specs.Reading.{read_result}
use Rattle.pgm_images.proofs.PictureLaws.{read_picture}
use Rattle.client_model.specs.Images.{picture_refusal, write_to, write_image, write_text_to, write_text, valid_refusal, set_valid_of, set_valid}
use Rattle.client_model.proofs.StateLaws.{with_object_leaves}
use Rattle.client_model.proofs.OutcomeLaws.{Keeps, unless_keeps}
use Rattle.graph_verify.proofs.SuitLemmas.{met}

-- a picture that isn't refused is described as the image is
picture_description : (image picture : Description)
    → picture_refusal image picture ≡ None
    → image ≡ picture
picture_description image picture h =
    grind (arith, passed (not (same_format image.format picture.format)) InvalidFormat _ h)

-- a rectangle that isn't refused is within the image
within_image : (image : Description) (valid : Rectangle)
    → valid_refusal image valid ≡ None
    → IsWithin valid image.width image.height
within_image image valid h = grind (arith, and_parts, met)

-- the image that a cell names is one
pub image_of_is : (limits : LimitsValue) (c : Context) (cell : Reference)
    → KeepsLimits limits c
    → IfOk (image_of c.objects cell) IsImage
image_of_is limits c cell h = grind (arith, held_is c.objects cell h.objects)

-- and what the cell holds
image_of_held : (objects : List NamedObject) (cell : Reference)
    → IfOk (image_of objects cell) (λ image. object_at objects cell ≡ Some (ImageObject image))
image_of_held objects cell = grind arith

-- where the image that a cell names becomes another of its size and format, unless it is refused,
-- the limits are kept
becomes_keeps :
    (limits : LimitsValue) (c : Context) (cell : Reference) (image new : ImageValue)
    (refusal : Option Refusal)
    → KeepsLimits limits c
    → object_at c.objects cell ≡ Some (ImageObject image)
    → (refusal ≡ None → IsImage new × (description_of image ≡ description_of new))
    → Keeps limits c
    (reply_unless refusal Empty (with_objects c (with_object c.objects cell (ImageObject new))))
becomes_keeps limits c cell image new refusal h found is =
    unless_keeps limits c refusal Empty
    (with_objects c (with_object c.objects cell (ImageObject new)))
    (λ allowed. with_object_leaves limits (λ name. false) c h (cell, ImageObject new)
    (record {
      is_object = (is allowed).0;
      lasts = ap (option_map lasting_part) found
          ∙ ap Some (images-last image new (is allowed).1);
    }))

-- a picture is written where an image of its size and format was
write_to_keeps :
    (limits : LimitsValue) (image : Result ImageValue Refusal) (c : Context) (cell : Reference)
    (p : PictureValue)
    → KeepsLimits limits c
    → IsPicture p
    → IfOk image (λ i. object_at c.objects cell ≡ Some (ImageObject i))
    → Keeps limits c (write_to image c cell p)
write_to_keeps limits (Err refusal) c cell p h is found = tt
write_to_keeps limits (Ok image) c cell p h is found =
    becomes_keeps limits c cell image (picture_image p)
    (picture_refusal (description_of image) p.description) h found
    (λ allowed.
    (pictured_image p is, picture_description (description_of image) p.description allowed))

-- so is that of a text
write_text_to_keeps :
    (limits : LimitsValue) (image : Result ImageValue Refusal) (c : Context) (cell : Reference)
    (picture : Result PictureValue PgmFault)
    → KeepsLimits limits c
    → ((p : PictureValue) → picture ≡ Ok p → IsPicture p)
    → IfOk image (λ i. object_at c.objects cell ≡ Some (ImageObject i))
    → Keeps limits c (write_text_to image c cell picture)
write_text_to_keeps limits (Err refusal) c cell picture h is found = tt
write_text_to_keeps limits (Ok image) c cell (Err fault) h is found = tt
write_text_to_keeps limits (Ok image) c cell (Ok p) h is found =
    write_to_keeps limits (Ok image) c cell p h (is p refl) found

-- a rectangle is set where an image was
set_valid_of_keeps :
    (limits : LimitsValue) (image : Result ImageValue Refusal) (c : Context) (cell : Reference)
    (valid : Rectangle)
    → KeepsLimits limits c
    → IsCanonical valid
    → IfOk image IsImage
    → IfOk image (λ i. object_at c.objects cell ≡ Some (ImageObject i))
    → Keeps limits c (set_valid_of image c cell valid)
set_valid_of_keeps limits (Err refusal) c cell valid h canonical is found = tt
set_valid_of_keeps limits (Ok image) c cell valid h canonical is found =
    becomes_keeps limits c cell image (with_valid valid image)
    (valid_refusal (description_of image) valid) h found
    (λ allowed. (
      with_valid_is image valid is canonical (within_image (description_of image) valid allowed),
      refl,
    ))

-- requests that write keep the limits
pub write_text_keeps : (limits : LimitsValue) (c : Context) (cell : Reference) (text : List ℕ)
    → KeepsLimits limits c
    → Keeps limits c (write_text c cell text)
write_text_keeps limits c cell text h =
    write_text_to_keeps limits (image_of c.objects cell) c cell (read_result text) h
    (read_picture text) (image_of_held c.objects cell)

pub write_image_keeps : (limits : LimitsValue) (c : Context) (cell : Reference) (p : PictureValue)
    → KeepsLimits limits c
    → IsPicture p
    → Keeps limits c (write_image c cell p)
write_image_keeps limits c cell p h is =
    write_to_keeps limits (image_of c.objects cell) c cell p h is (image_of_held c.objects cell)

pub set_valid_keeps : (limits : LimitsValue) (c : Context) (cell : Reference) (valid : Rectangle)
    → KeepsLimits limits c
    → IsCanonical valid
    → Keeps limits c (set_valid c cell valid)
set_valid_keeps limits c cell valid h is =
    set_valid_of_keeps limits (image_of c.objects cell) c cell valid h is
    (image_of_is limits c cell h) (image_of_held c.objects cell)
