-- The frame of a picture: its head and description, and then its samples; and that of its PGM text.
use Rattle.std.proofs.Common.{◌≡◌, ℕ, ◌+◌, ◌*◌, ℤ, List, [], ◌∷◌, ◌++◌, length, map, unsigned_abs, refl, sym, ap, ◌∙◌, arith, append_assoc, length-append}
use Rattle.vx_requests.proofs.Common.{length-map, pgm_text, IsImage, flat_map, U8, sample_bytes, Description, sample_count, byte_count, PictureValue, Describes, values, samples_format, picture_of, reply_bytes, reply_head, spelled_frame, encoded_sample, description_bytes, length-encoded}
use Rattle.pgm_images.specs.Writing.{written_header}
use Rattle.vx_base.specs.Image.{ImageValue, description_of}
use Rattle.vx_base.specs.declared.samples.Samples.{Samples}
use Rattle.vx_wire.specs.Samples.{picture_bytes}

-- the bytes of samples, as they are written
abbrev samples_in : Samples → List ℕ
samples_in samples = flat_map (encoded_sample (samples_format samples)) (values samples)

picture_frame : (client op : ℕ) (p : PictureValue) (samples : Samples)
    → values samples ≡ p.samples
    → Describes p.description samples
    → (reply_head (byte_count p.description + 9) client op 0 ++ description_bytes p.description)
    ++ samples_in samples
    ≡ reply_bytes (spelled_frame client op (record { code = 0; body = picture_bytes p }))
picture_frame client op p samples are fills =
    let d : Description = p.description in
    let n : ℕ = length (picture_bytes p) + 4 in
    let same : samples_in samples ≡ flat_map (encoded_sample d.format) p.samples =
    ap (λ f. flat_map (encoded_sample f) (values samples)) fills.format
    ∙ ap (flat_map (encoded_sample d.format)) are in
    let count : length p.samples ≡ sample_count d = sym (ap length are) ∙ fills.size in
    let size : length (flat_map (encoded_sample d.format) p.samples) ≡ byte_count d =
    length-encoded d.format p.samples ∙ ap (λ k. k * sample_bytes d.format) count in
    let long : byte_count d + 9 ≡ n =
    omega (
      arith,
      size,
      length-append (description_bytes d) (flat_map (encoded_sample d.format) p.samples),
    ) in
    ap (λ k. (reply_head k client op 0 ++ description_bytes d) ++ samples_in samples) long
    ∙ ap (λ l. (reply_head n client op 0 ++ description_bytes d) ++ l) same

-- a picture is its description and its samples
pub picture_is : (p : PictureValue) (d : Description) (samples : List ℤ)
    → d ≡ p.description
    → samples ≡ p.samples
    → record { description = d; samples = samples } ≡ p
picture_is p d samples described are =
    rw (described, are)

-- the frame of a picture, with the description and the head as they were made
pub picture_parts :
    (client op : ℕ) (p : PictureValue) (samples : Samples) (d : Description) (head : List ℕ)
    → values samples ≡ p.samples
    → Describes p.description samples
    → d ≡ p.description → head ≡ reply_head (byte_count d + 9) client op 0 ++ description_bytes d
    → head ++ samples_in samples
    ≡ reply_bytes (spelled_frame client op (record { code = 0; body = picture_bytes p }))
picture_parts client op p samples d head are fills is made =
    rw (made, is) (picture_frame client op p samples are fills)

-- ---- texts

-- the bytes of U8 samples are their numbers
byte_samples : (samples : List ℤ) → flat_map (encoded_sample U8) samples ≡ map unsigned_abs samples
byte_samples [] = refl
byte_samples (z ∷ samples) = ap (λ l. unsigned_abs z ∷ l) (byte_samples samples)

-- the frame of the text of a U8 image, with the head as it was made
pub text_image_parts : (client op : ℕ) (image : ImageValue) (d : Description) (head : List ℕ)
    → IsImage image
    → d ≡ description_of image
    → head
    ≡ reply_head (length (written_header d) + sample_count d + 4) client op 0 ++ written_header d
    → head ++ map unsigned_abs image.samples
    ≡ reply_bytes
    (spelled_frame client op (record { code = 0; body = pgm_text (picture_of image) }))
text_image_parts client op image d head is described made =
    let header : List ℕ = written_header (description_of image) in
    let raster : List ℕ = map unsigned_abs image.samples in
    let many : length raster ≡ length image.samples = length-map image.samples unsigned_abs in
    let long :
    length header + sample_count (description_of image) + 4 ≡ length (header ++ raster) + 4 =
    omega (arith, length-append header raster, is.size) in
    rw (made, described, long)
    (append_assoc (reply_head (length (header ++ raster) + 4) client op 0) header raster)

-- and with its samples as they are written
pub text_image_written : (image : ImageValue) (samples : Samples) (head frame : List ℕ)
    → image.format ≡ U8
    → values samples ≡ image.samples
    → samples_format samples ≡ image.format
    → head ++ map unsigned_abs image.samples ≡ frame → head ++ samples_in samples ≡ frame
text_image_written image samples head frame bytes are same joined =
    rw (same, bytes, are, byte_samples image.samples) joined
