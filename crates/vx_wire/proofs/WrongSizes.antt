-- Bodies that begin as one that writes an image does, and end too early or too late.
use Rattle.std.proofs.Common.{◌≡◌, ◌≢◌, ℕ, ℤ, ◌<◌, ◌≤◌, nat_le, Bool, true, false, List, [], ◌∷◌, ◌++◌, Ok, Err, length, take, drop, arith, refl, length-drop, if◌then◌else◌, leb-true}
use Rattle.vx_wire.proofs.Common.{Reference, Description, sample_count, PictureValue, WriteImage, InvalidParameters, FieldResult, and_then, at_end, take_description, take_reference, decoded_samples, take_samples}
use Rattle.std.proofs.lemmas.Grind.{common_steps}
use Rattle.vx_base.specs.Description.{byte_count}
use Rattle.vx_wire.specs.Images.{write_image_in}
use Rattle.vx_wire.proofs.ReadFields.{ok}

-- something follows the last field
more_follows : {A : Type 0} (x : A) (rest : List ℕ)
    → 0 < length rest
    → at_end x rest ≡ Err InvalidParameters
more_follows x [] some = absurd (omega arith)
more_follows x (b ∷ rest) some = refl

-- the samples are cut short, or something follows them
pub wrong_size : (image : Reference) (d : Description) (bytes : List ℕ)
    → length bytes ≢ byte_count d
    → and_then
    (and_then (take_samples d.format (sample_count d) bytes)
    (λ samples rest. ok (record { description = d; samples = samples }) rest))
    (λ p rest. at_end (WriteImage image p) rest)
    ≡ Err InvalidParameters
wrong_size image d bytes other = cut (nat_le n (length bytes)) refl
  where
    n : ℕ
    n = byte_count d

    made : List ℤ → List ℕ → FieldResult PictureValue
    made samples rest = ok (record { description = d; samples = samples }) rest

    cut : (b : Bool) → nat_le n (length bytes) ≡ b
        → and_then
        (and_then
        (and_then (if b then ok (take n bytes) (drop n bytes) else Err InvalidParameters)
        (λ bytes rest. ok (decoded_samples d.format (sample_count d) bytes) rest))
        made)
        (λ p rest. at_end (WriteImage image p) rest) ≡ Err InvalidParameters
    cut true enough =
        let fits : n ≤ length bytes = leb-true n (length bytes) enough in
        let more : 0 < length (drop n bytes) = omega (arith, length-drop n bytes) in
        more_follows
        (WriteImage image
        (record
        { description = d; samples = decoded_samples d.format (sample_count d) (take n bytes) }))
        (drop n bytes) more
    cut false few = refl

-- what is taken from the first ten bytes is taken from them whatever follows
first_ten : (head rest left bytes : List ℕ) (image : Reference) (d : Description)
    → length head ≡ 10
    → take_reference head ≡ Ok (image, rest)
    → take_description rest ≡ Ok (d, left)
    → (take_reference (head ++ bytes) ≡ Ok (image, rest ++ bytes))
    × (take_description (rest ++ bytes) ≡ Ok (d, bytes))
first_ten head rest left bytes image d long is_image is_d =
    (grind (arith, common_steps), grind (arith, common_steps))

-- such a body encodes no request
pub wrong_body : (head rest left bytes : List ℕ) (image : Reference) (d : Description)
    → length head ≡ 10
    → take_reference head ≡ Ok (image, rest)
    → take_description rest ≡ Ok (d, left)
    → length bytes ≢ byte_count d → write_image_in (head ++ bytes) ≡ Err InvalidParameters
wrong_body head rest left bytes image d long is_image is_d other =
    let (first, second) = first_ten head rest left bytes image d long is_image is_d in
    rw (first, second) (wrong_size image d bytes other)
