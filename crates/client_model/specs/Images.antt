-- The creation of objects, and requests on images. OpenVX 1.3, "Object: Image", vxCreateImage,
-- vxQueryImage, vxCopyImagePatch and vxSetImageValidRectangle.
use Rattle.std.specs.Prelude.{ℕ, List, not, nat_le, ◌&&◌, unwrap_or, Option, Some, None, Result, Ok, Err, if◌then◌else◌}
use Rattle.vx_base.specs.declared.format.Format.TheVariants.{U8}
use Rattle.vx_base.specs.Reference.{Reference}
use Rattle.vx_base.specs.Sample.{same_format}
use Rattle.vx_base.specs.Description.{Description, same_size}
use Rattle.vx_base.specs.Rectangle.{Rectangle, empty_rectangle}
use Rattle.vx_base.specs.Image.{ImageValue, new_image, description_of, with_valid}
use Rattle.vx_base.specs.Picture.{PictureValue, picture_of, picture_image}
use Rattle.vx_base.specs.Object.{ObjectValue, ImageObject, VirtualObject, object_bytes}
use Rattle.vx_base.specs.PartialDescription.{PartialDescription}
use Rattle.vx_base.specs.declared.kind.Kind.TheVariants as kind
use Rattle.pgm_images.specs.declared.fault.PgmFault.{PgmFault}
use Rattle.pgm_images.specs.declared.fault.PgmFault.TheVariants as fault
use Rattle.pgm_images.specs.Reading.{read_result}
use Rattle.pgm_images.specs.Writing.{pgm_text}
use Rattle.client_model.specs.declared.refusal.Refusal.{Refusal}
use Rattle.client_model.specs.declared.refusal.Refusal.TheVariants.{InvalidReference, InvalidType, InvalidFormat, InvalidDimension, InvalidValue, NoResources}
use Rattle.client_model.specs.declared.reply.Described.{Described}
use Rattle.client_model.specs.declared.reply.Reply.TheVariants as reply
use Rattle.client_model.specs.declared.reply.Reply.TheVariants.{Empty, Name, Picture, Text}
use Rattle.client_model.specs.Limits.{LimitsValue}
use Rattle.client_model.specs.Context.{has_capacity}
use Rattle.object_table.specs.NamedObject.{NamedObject, object_at, with_object}
use Rattle.object_table.specs.Context.{Context, with_new, with_objects}
use Rattle.client_model.specs.Refusal.{Outcome, reply_unless}
use Rattle.client_model.specs.Operands.{is_unknown, is_of_other_kind, image_of}

-- the creation of an object under the next name; refused if there is no capacity for the object
abbrev pub create : LimitsValue → Context → ObjectValue → Outcome
create limits c object =
    if has_capacity limits c (object_bytes object) then Ok
    (Name c.next, Some (with_new c object)) else Err NoResources

-- CreateImage: an image of zeros
abbrev pub create_image : LimitsValue → Context → Description → Outcome
create_image limits c d = create limits c (ImageObject (new_image d.width d.height d.format))

-- the format, the size and the valid rectangle of an image
abbrev pub described_image : ImageValue → Described
described_image image = record {
  format = Some image.format;
  width = image.width;
  height = image.height;
  valid = image.valid;
}

-- the result of QueryImage for a virtual image: its declared format, its declared sides (0 if
-- open), and an empty valid rectangle
abbrev pub described_virtual : PartialDescription → Described
described_virtual declared = record {
  format = declared.format;
  width = unwrap_or declared.width 0;
  height = unwrap_or declared.height 0;
  valid = empty_rectangle;
}

-- the result of QueryImage for an image or a virtual image; otherwise a refusal
abbrev pub as_described : Option ObjectValue → Result Described Refusal
as_described (Some (ImageObject image)) = Ok (described_image image)
as_described (Some (VirtualObject image)) = Ok (described_virtual image.declared)
as_described other = Err InvalidValue

-- the result of QueryImage for a reference, or the refusal
abbrev pub described_in : List NamedObject → Reference → Result Described Refusal
described_in objects cell =
    if is_unknown objects cell then Err InvalidReference
    else
    (if is_of_other_kind objects (cell, kind.Image) then Err InvalidType else as_described
    (object_at objects cell))

-- the reply with this result of QueryImage, or the refusal
abbrev pub query_of : Result Described Refusal → Context → Outcome
query_of (Err refusal) c = Err refusal
query_of (Ok found) c = Ok (reply.Described found, Some c)

-- QueryImage: the format, the size and the valid rectangle
abbrev pub query_image : Context → Reference → Outcome
query_image c cell = query_of (described_in c.objects cell) c

-- why a picture can't be written to an image: their formats differ, or else their sizes
abbrev pub picture_refusal : Description → Description → Option Refusal
picture_refusal image picture =
    if not (same_format image.format picture.format) then Some InvalidFormat
    else (if same_size image picture then None else Some InvalidDimension)

-- the image with the samples of a picture, if the picture has the image's format and size; or the
-- refusal
abbrev pub write_to : Result ImageValue Refusal → Context → Reference → PictureValue → Outcome
write_to (Err refusal) c cell p = Err refusal
write_to (Ok image) c cell p =
    reply_unless (picture_refusal (description_of image) p.description) Empty
    (with_objects c (with_object c.objects cell (ImageObject (picture_image p))))

-- WriteImage: the image with the picture's samples; the whole image is valid
abbrev pub write_image : Context → Reference → PictureValue → Outcome
write_image c cell p = write_to (image_of c.objects cell) c cell p

-- the refusal for a fault of a PGM text
abbrev pub fault_refusal : PgmFault → Refusal
fault_refusal fault.InvalidDimension = InvalidDimension
fault_refusal fault.InvalidValue = InvalidValue
fault_refusal other = InvalidFormat

-- the image with the samples of a text's picture; or the first of these refusals: of the image's
-- reference, of the text, of the picture
abbrev pub write_text_to : Result ImageValue Refusal
    → Context
    → Reference
    → Result PictureValue PgmFault
    → Outcome
write_text_to (Err refusal) c cell picture = Err refusal
write_text_to (Ok image) c cell (Err fault) = Err (fault_refusal fault)
write_text_to (Ok image) c cell (Ok p) = write_to (Ok image) c cell p

-- WriteImagePgm: the image with the samples of the text's picture; the whole image is valid
abbrev pub write_text : Context → Reference → List ℕ → Outcome
write_text c cell text = write_text_to (image_of c.objects cell) c cell (read_result text)

-- the picture of an image, or the refusal
abbrev pub read_from : Result ImageValue Refusal → Context → Outcome
read_from (Err refusal) c = Err refusal
read_from (Ok image) c = Ok (Picture (picture_of image), Some c)

-- ReadImage: the samples of all pixels
abbrev pub read_image : Context → Reference → Outcome
read_image c cell = read_from (image_of c.objects cell) c

-- the PGM text of a U8 image, or the refusal
abbrev pub read_text_from : Result ImageValue Refusal → Context → Outcome
read_text_from (Err refusal) c = Err refusal
read_text_from (Ok image) c =
    reply_unless (if same_format image.format U8 then None else Some InvalidFormat)
    (Text (pgm_text (picture_of image))) c

-- ReadImagePgm: the samples of a U8 image as a PGM text
abbrev pub read_text : Context → Reference → Outcome
read_text c cell = read_text_from (image_of c.objects cell) c

-- why a rectangle can't be the valid rectangle of an image: it goes beyond the image
abbrev pub valid_refusal : Description → Rectangle → Option Refusal
valid_refusal image valid =
    if nat_le valid.x1 image.width && nat_le valid.y1 image.height then None else Some InvalidValue

-- the image with this valid rectangle, if the rectangle is within the image; or the refusal
abbrev pub set_valid_of : Result ImageValue Refusal → Context → Reference → Rectangle → Outcome
set_valid_of (Err refusal) c cell valid = Err refusal
set_valid_of (Ok image) c cell valid =
    reply_unless (valid_refusal (description_of image) valid) Empty
    (with_objects c (with_object c.objects cell (ImageObject (with_valid valid image))))

-- SetValid: the image with this valid rectangle, and with samples of 0 outside the rectangle
abbrev pub set_valid : Context → Reference → Rectangle → Outcome
set_valid c cell valid = set_valid_of (image_of c.objects cell) c cell valid
