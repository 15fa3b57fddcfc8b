-- The picture that a PGM text encodes, or its first fault.
use Rattle.std.specs.Prelude.{◌≡◌, ℕ, ℤ, ◌⊎◌, Bool, true, false, List, Option, Some, None, Result, Ok, Err}
use Rattle.vx_base.specs.Description.{Description, sample_count}
use Rattle.vx_base.specs.declared.samples.Samples.{Samples}
use Rattle.vx_base.specs.Picture.{PictureValue, Describes}
use Rattle.pgm_images.specs.declared.fault.PgmFault.{PgmFault}
use Rattle.pgm_images.specs.declared.fault.PgmFault.TheVariants.{NoMemory, InvalidFormat}
use Rattle.pgm_images.specs.Marks.{BeginsWith}
use Rattle.pgm_images.specs.Header.{HeaderValue, take_header, header_description}
use Rattle.pgm_images.specs.Raster.{numbers_in, samples_up_to}

-- the picture with this description and these samples, or the fault of reading the samples
abbrev pub picture_with : Description → Result (List ℤ) PgmFault → Result PictureValue PgmFault
picture_with d (Ok samples) = Ok (record { description = d; samples = samples })
picture_with d (Err fault) = Err fault

-- The picture with this header and the samples in the text after it, or the first fault. The
-- header's fault comes before a fault of the samples.
abbrev pub picture_under : HeaderValue
    → Result Description PgmFault
    → List ℕ
    → Result PictureValue PgmFault
picture_under header (Err fault) text = Err fault
picture_under header (Ok d) text =
    picture_with d
    (samples_up_to header.maxval (numbers_in header.encoding header.maxval (sample_count d) text))

-- the picture with the header that was read from a text, or the first fault; InvalidFormat if the
-- text has no header
abbrev pub picture_after : BeginsWith HeaderValue → Result PictureValue PgmFault
picture_after None = Err InvalidFormat
picture_after (Some taken) =
    picture_under taken.0 (header_description taken.0.width taken.0.height taken.0.maxval) taken.1

-- the picture that a text encodes, or the text's first fault
abbrev pub read_result : List ℕ → Result PictureValue PgmFault
read_result text = picture_after (take_header text)

-- the fault of a result, if it has one
abbrev pub fault_of : Result PictureValue PgmFault → Option PgmFault
fault_of (Ok p) = None
fault_of (Err fault) = Some fault

-- the first fault of a text, or None if the text encodes a picture
abbrev pub fault : List ℕ → Option PgmFault
fault text = fault_of (read_result text)

-- the description that a header gives, or the header's fault; InvalidFormat if there is no header
abbrev pub description_after : BeginsWith HeaderValue → Result Description PgmFault
description_after None = Err InvalidFormat
description_after (Some taken) = header_description taken.0.width taken.0.height taken.0.maxval

-- the description that a text's header gives, or the header's fault; the rest of the text is not
-- read
abbrev pub description_in : List ℕ → Result Description PgmFault
description_in text = description_after (take_header text)

-- The text's header is accepted, and the samples have the format and count that the header states.
pub record SamplesFitHeader (text : List ℕ) (samples : Samples) : Type 0 where
  pub description : Description
  pub parses : description_in text ≡ Ok description
  pub described : Describes description samples

-- whether the text begins with a header that is accepted; only then is memory allocated
abbrev pub is_headed : List ℕ → Bool
is_headed text = allowed (take_header text)
  where
    without_fault : Result Description PgmFault → Bool
    without_fault (Ok d) = true
    without_fault (Err fault) = false

    allowed : BeginsWith HeaderValue → Bool
    allowed None = false
    allowed (Some taken) =
        without_fault (header_description taken.0.width taken.0.height taken.0.maxval)

-- why reading failed: the first fault of the text; or NoMemory, if the text's header is accepted
pub record FailsFor (text : List ℕ) (e : PgmFault) : Type 0 where
  pub is : (fault text ≡ Some e) ⊎ ((e ≡ NoMemory) × (is_headed text ≡ true))
