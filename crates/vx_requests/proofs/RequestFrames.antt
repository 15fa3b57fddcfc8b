-- The frames of requests that hold samples, a text or coefficients: a head, and then these.
use Rattle.std.proofs.Common.{◌≡◌, ℕ, ℤ, ◌+◌, ◌*◌, List, [], ◌∷◌, ◌++◌, length, arith, refl, ap, ◌∙◌}
use Rattle.vx_requests.proofs.Common.{flat_map, w16, w32, to_be_bytes, Format, sample_bytes, Reference, Description, byte_count, PictureValue, Describes, values, samples_format, WriteImage, WriteImagePgm, CreateLut, CreateConvolution, frame_bytes, request_frame, encoded_sample, description_bytes, length-encoded}
use Rattle.vx_base.specs.declared.samples.Samples.{Samples}
use Rattle.vx_base.specs.Lut.{LutValue}
use Rattle.vx_base.specs.declared.format.Format.TheVariants.{S16}
use Rattle.vx_base.specs.Convolution.{ConvolutionValue}
use Rattle.vx_requests.specs.Frame.Frames.{frame_head}
use Rattle.vx_wire.specs.Format.{format_number}
use Rattle.vx_wire.specs.Reference.{reference_bytes}

-- the bytes of samples, as they are written
abbrev spelled : Samples → List ℕ
spelled samples = flat_map (encoded_sample (samples_format samples)) (values samples)

pub write_image_frame :
    (client : ℕ) (cell : Reference) (p : PictureValue) (samples : Samples) (d : Description)
    (head : List ℕ)
    → values samples ≡ p.samples
    → Describes p.description samples
    → d ≡ p.description
    → head
    ≡ frame_head (13 + byte_count d) client 5 ++ (reference_bytes cell ++ description_bytes d)
    → head ++ spelled samples ≡ frame_bytes (request_frame client (WriteImage cell p))
write_image_frame client cell p samples d head are fills is made =
    let kept = p.description in
    let same : spelled samples ≡ flat_map (encoded_sample kept.format) p.samples =
    rw (fills.format, are) refl in
    let size : length (spelled samples) ≡ byte_count kept =
    rw (length-encoded (samples_format samples) (values samples), fills.size, fills.format) in
    let body : List ℕ = reference_bytes cell ++ (description_bytes kept ++ spelled samples) in
    let long : 13 + byte_count kept ≡ length body + 3 = omega (arith, size) in
    rw (made, is)
    (ap (λ n. to_be_bytes w32 n ++ (to_be_bytes w16 client ++ 5 ∷ body)) long
    ∙ ap
    (λ l. frame_bytes
    (record
    { client = client; op = 5; body = reference_bytes cell ++ (description_bytes kept ++ l) }))
    same)

pub create_lut_frame :
    (client : ℕ) (lut : LutValue) (entries : Samples) (format : Format) (count : ℕ) (head : List ℕ)
    → values entries ≡ lut.entries
    → samples_format entries ≡ lut.format
    → format ≡ samples_format entries
    → count ≡ length (values entries)
    → head ≡ frame_head (4 + count * sample_bytes format) client 11 ++ format_number format ∷ []
    → head ++ spelled entries ≡ frame_bytes (request_frame client (CreateLut lut))
create_lut_frame client lut entries format count head are same_format is_format is_count made =
    let kept = samples_format entries in
    let same : spelled entries ≡ flat_map (encoded_sample lut.format) lut.entries =
    rw (same_format, are) refl in
    let body : List ℕ = format_number kept ∷ spelled entries in
    let long : 4 + length (values entries) * sample_bytes kept ≡ length body + 3 =
    omega (arith, length-encoded kept (values entries)) in
    rw (made, is_format, is_count)
    (ap (λ n. to_be_bytes w32 n ++ (to_be_bytes w16 client ++ 11 ∷ body)) long
    ∙ ap
    (λ f. frame_bytes
    (record { client = client; op = 11; body = format_number f ∷ spelled entries }))
    same_format
    ∙ ap
    (λ l. frame_bytes (record { client = client; op = 11; body = format_number lut.format ∷ l }))
    same)

pub write_image_pgm_frame : (client : ℕ) (cell : Reference) (text bytes head : List ℕ)
    → bytes ≡ text
    → head ≡ frame_head (8 + length bytes) client 6 ++ reference_bytes cell
    → head ++ bytes ≡ frame_bytes (request_frame client (WriteImagePgm cell text))
write_image_pgm_frame client cell text bytes head are made =
    let body : List ℕ = reference_bytes cell ++ bytes in
    let long : 8 + length bytes ≡ length body + 3 = omega arith in
    ap (λ l. l ++ bytes) made
    ∙ ap (λ n. to_be_bytes w32 n ++ (to_be_bytes w16 client ++ 6 ∷ body)) long
    ∙ ap
    (λ l. frame_bytes (record { client = client; op = 6; body = reference_bytes cell ++ l }))
    are

pub create_convolution_frame :
    (client : ℕ) (c : ConvolutionValue) (coefficients : List ℤ) (head : List ℕ)
    → coefficients ≡ c.coefficients
    → length coefficients ≡ c.rows * c.columns
    → head
    ≡ frame_head (6 + c.rows * c.columns * 2) client 13 ++ c.columns ∷ c.rows ∷ c.exponent ∷ []
    → head ++ flat_map (encoded_sample S16) coefficients
    ≡ frame_bytes (request_frame client (CreateConvolution c))
create_convolution_frame client c coefficients head are size made =
    let spelling : List ℕ = flat_map (encoded_sample S16) coefficients in
    let body : List ℕ = c.columns ∷ c.rows ∷ c.exponent ∷ spelling in
    let bytes : length spelling ≡ c.rows * c.columns * 2 =
    length-encoded S16 coefficients ∙ ap (λ n. n * 2) size in
    let long : 6 + c.rows * c.columns * 2 ≡ length body + 3 = omega (arith, bytes) in
    ap (λ l. l ++ spelling) made
    ∙ ap (λ n. to_be_bytes w32 n ++ (to_be_bytes w16 client ++ 13 ∷ body)) long
    ∙ ap
    (λ l. frame_bytes
    (record {
      client = client;
      op = 13;
      body = c.columns
          ∷ c.rows
          ∷ c.exponent
          ∷ flat_map (encoded_sample S16) l;
    }))
    are
