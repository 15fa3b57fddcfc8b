-- Samples as bytes: 1, 2 or 4 bytes for each sample, the most significant first.
use Rattle.std.specs.Prelude.{ℕ, zero, suc, ◌*◌, ℤ, pos, unsigned_abs, List, [], ◌∷◌, ◌++◌, take, drop, Ok}
use Rattle.std.specs.List.{flat_map}
use Rattle.std.specs.Int.{w8, w16, w32, to_be_bytes, from_be_bytes, cast_unsigned}
use Rattle.vx_base.specs.declared.format.Format.{Format}
use Rattle.vx_base.specs.declared.format.Format.TheVariants.{U8, S16, U32}
use Rattle.vx_base.specs.Sample.{sample_bytes, signed_of}
use Rattle.vx_base.specs.Description.{sample_count}
use Rattle.vx_base.specs.Picture.{PictureValue}
use Rattle.vx_wire.specs.Fields.{FieldResult, and_then, take_bytes}
use Rattle.vx_wire.specs.Description.{take_description, description_bytes}

-- the sample that these bytes encode
abbrev pub decoded_sample : Format → List ℕ → ℤ
decoded_sample U8 bytes = pos (from_be_bytes w8 bytes)
decoded_sample S16 bytes = signed_of (pos (from_be_bytes w16 bytes))
decoded_sample U32 bytes = pos (from_be_bytes w32 bytes)

-- the bytes of a sample
abbrev pub encoded_sample : Format → ℤ → List ℕ
encoded_sample U8 z = unsigned_abs z ∷ []
encoded_sample S16 z = to_be_bytes w16 (cast_unsigned w16 z)
encoded_sample U32 z = to_be_bytes w32 (unsigned_abs z)

-- `count` consecutive samples of a format, decoded from bytes
abbrev pub decoded_samples : Format → ℕ → List ℕ → List ℤ
decoded_samples format zero bytes = []
decoded_samples format (suc count) bytes =
    decoded_sample format (take (sample_bytes format) bytes)
    ∷ decoded_samples format count (drop (sample_bytes format) bytes)

-- the bytes of samples, one after the other
abbrev pub encoded_samples : Format → List ℤ → List ℕ
encoded_samples format samples = flat_map (encoded_sample format) samples

-- reads `count` samples of a format from the front of a body, as one field
abbrev pub take_samples : Format → ℕ → List ℕ → FieldResult (List ℤ)
take_samples format count body =
    and_then (take_bytes (count * sample_bytes format) body)
    (λ bytes rest. Ok (decoded_samples format count bytes, rest))

-- ---- pictures: the description, and then the samples row by row from the top

-- reads a picture from the front of a body: the description, then the samples
abbrev pub take_picture : List ℕ → FieldResult PictureValue
take_picture body =
    and_then (take_description body)
    (λ d rest. and_then (take_samples d.format (sample_count d) rest) (λ samples rest.
    Ok (record { description = d; samples = samples }, rest)))

-- the bytes of a picture: the description, then the samples
abbrev pub picture_bytes : PictureValue → List ℕ
picture_bytes p = description_bytes p.description ++ encoded_samples p.description.format p.samples
