-- The bodies of requests on images.
use Rattle.std.specs.Prelude.{ℕ, List, Result, Ok}
use Rattle.vx_base.specs.Reference.{Reference}
use Rattle.vx_base.specs.Description.{Description, sample_count}
use Rattle.client_model.specs.declared.request.Request.{Request}
use Rattle.client_model.specs.declared.request.Request.TheVariants.{CreateImage, QueryImage, WriteImage, WriteImagePgm, ReadImage, ReadImagePgm, SetValid}
use Rattle.vx_wire.specs.declared.body_fault.BodyFault.{BodyFault}
use Rattle.vx_wire.specs.Fields.{and_then, one_field, two_fields}
use Rattle.vx_wire.specs.Description.{take_description}
use Rattle.vx_wire.specs.Reference.{take_reference}
use Rattle.vx_wire.specs.Rectangle.{take_rectangle}
use Rattle.vx_wire.specs.Samples.{decoded_samples, take_picture}

-- the request CreateImage that a body encodes: an image's description
abbrev pub create_image_in : List ℕ → Result Request BodyFault
create_image_in body = one_field take_description CreateImage body

-- the request QueryImage that a body encodes: a reference to an image
abbrev pub query_image_in : List ℕ → Result Request BodyFault
query_image_in body = one_field take_reference QueryImage body

-- the request WriteImage that a body encodes: a reference to an image, then a picture
abbrev pub write_image_in : List ℕ → Result Request BodyFault
write_image_in body = two_fields take_reference take_picture WriteImage body

-- The request WriteImage that writes a picture to this image. The picture has the description `d`,
-- and `bytes` encodes the picture's samples.
abbrev pub write_image_of : Reference → Description → List ℕ → Request
write_image_of image d bytes =
    WriteImage image
    (record { description = d; samples = decoded_samples d.format (sample_count d) bytes })

-- The request WriteImagePgm that a body encodes: a reference to an image, then a text. The text is
-- all remaining bytes, possibly none.
abbrev pub write_image_pgm_in : List ℕ → Result Request BodyFault
write_image_pgm_in body =
    and_then (take_reference body) (λ image text. Ok (WriteImagePgm image text))

-- the request ReadImage that a body encodes: a reference to an image
abbrev pub read_image_in : List ℕ → Result Request BodyFault
read_image_in body = one_field take_reference ReadImage body

-- the request ReadImagePgm that a body encodes: a reference to an image
abbrev pub read_image_pgm_in : List ℕ → Result Request BodyFault
read_image_pgm_in body = one_field take_reference ReadImagePgm body

-- the request SetValid that a body encodes: a reference to an image, then a rectangle
abbrev pub set_valid_in : List ℕ → Result Request BodyFault
set_valid_in body = two_fields take_reference take_rectangle SetValid body
