-- Samples and their bytes: each is had back from the other.
use Rattle.std.proofs.Common.{◌≡◌, ℕ, ℤ, pos, negsuc, zero, suc, ◌+◌, ◌*◌, ◌<◌, ◌≤◌, ◌^◌, List, [], ◌∷◌, ◌++◌, length, take, drop, map, get_or, arith, refl, ap, ◌∙◌, take_at, drop_at, take-append-drop, length-take-le, length-append, All}
use Rattle.vx_wire.proofs.Common.{w16, w32, to_be_bytes, cast_unsigned, ints, nat_tests, from_be_bytes-to_be_bytes_4, All-head, All-tail, All-nil, All-cons, All-take, All-drop, Format, U8, S16, U32, IsSample, sample_bytes, decoded_sample, encoded_sample, decoded_samples, encoded_samples}
use Rattle.std.specs.Int.{from_be_bytes}
use Rattle.std.proofs.lemmas.Nat.{be_bytes_2, be_bytes_4, from_be_bytes-to_be_bytes_2}
use Rattle.vx_base.specs.Sample.{signed_of}
use Rattle.vx_wire.proofs.ReadFields.{AllBytes}

-- ---- one sample

-- a sample has as many bytes as its format says
pub length-encoded_sample : (format : Format) (z : ℤ)
    → length (encoded_sample format z) ≡ sample_bytes format
length-encoded_sample U8 z = refl
length-encoded_sample S16 z = refl
length-encoded_sample U32 z = refl

-- an S16 sample as a number from 0 to 65535
short_back : (z : ℤ)
    → IsSample S16 z
    → (cast_unsigned w16 z < 2 ^ 16) × (signed_of (pos (cast_unsigned w16 z)) ≡ z)
short_back z is = (omega (arith, ints), grind (arith, nat_tests, ints, is.at_least, is.at_most))

-- a sample is decoded from its bytes
pub sample_back : (format : Format) (z : ℤ)
    → IsSample format z
    → decoded_sample format (encoded_sample format z) ≡ z
sample_back U8 (pos n) is = refl
sample_back U8 (negsuc n) is = absurd (omega (arith, ints, is.at_least))
sample_back S16 z is =
    let (below, back) = short_back z is in
    ap (λ m. signed_of (pos m)) (from_be_bytes-to_be_bytes_2 (cast_unsigned w16 z) below) ∙ back
sample_back U32 (pos n) is =
    let below : n < 2 ^ 32 = omega (arith, ints, is.at_most) in
    ap pos (from_be_bytes-to_be_bytes_4 n below)
sample_back U32 (negsuc n) is = absurd (omega (arith, ints, is.at_least))

-- a number below 65536 as a signed one: its two bytes, and its range
signed_of_is : (m : ℕ)
    → m < 65536
    → (cast_unsigned w16 (signed_of (pos m)) ≡ m) × IsSample S16 (signed_of (pos m))
signed_of_is m below = (
  grind (arith, nat_tests, ints),
  record { at_least = grind (arith, nat_tests, ints); at_most = grind (arith, nat_tests, ints) },
)

-- the byte at any index
each_byte : (bytes : List ℕ) → AllBytes bytes → (i : ℕ) → get_or bytes i 0 < 256
each_byte [] is i = omega arith
each_byte (b ∷ bytes) is zero =
    let first : b < 256 = All-head (λ b. b < 256) b bytes is in omega arith
each_byte (b ∷ bytes) is (suc i) = each_byte bytes (All-tail (λ b. b < 256) b bytes is) i

-- two bytes are a number below 65536
short_below : (bytes : List ℕ) → AllBytes bytes → length bytes ≡ 2 → from_be_bytes w16 bytes < 65536
short_below bytes is long =
    let b0 = each_byte bytes is 0 in
    let b1 = each_byte bytes is 1 in
    omega arith

-- four bytes are a number below 2 ^ 32
word_below : (bytes : List ℕ) → AllBytes bytes → length bytes ≡ 4 → from_be_bytes w32 bytes < 2 ^ 32
word_below bytes is long =
    let b0 = each_byte bytes is 0 in
    let b1 = each_byte bytes is 1 in
    let b2 = each_byte bytes is 2 in
    let b3 = each_byte bytes is 3 in
    omega arith

-- and as many bytes as a sample takes are those of the sample that they encode
pub sample_of_bytes : (format : Format) (bytes : List ℕ)
    → AllBytes bytes
    → length bytes ≡ sample_bytes format
    → (encoded_sample format (decoded_sample format bytes) ≡ bytes)
    × IsSample format (decoded_sample format bytes)
sample_of_bytes U8 [] is long = absurd (omega arith)
sample_of_bytes U8 (b ∷ []) is long =
    let first : b < 256 = All-head (λ b. b < 256) b [] is in
    (refl, record { at_least = omega (arith, ints); at_most = omega (arith, ints) })
sample_of_bytes U8 (b ∷ c ∷ bytes) is long = absurd (omega arith)
sample_of_bytes S16 bytes is long =
    let m = from_be_bytes w16 bytes in
    let (same, sample) = signed_of_is m (short_below bytes is long) in
    (ap (to_be_bytes w16) same ∙ be_bytes_2 bytes m long (each_byte bytes is) refl, sample)
sample_of_bytes U32 bytes is long =
    let n = from_be_bytes w32 bytes in
    let below : n < 2 ^ 32 = word_below bytes is long in (
      be_bytes_4 bytes n long (each_byte bytes is) refl,
      record { at_least = omega (arith, ints); at_most = omega (arith, ints) },
    )

-- ---- samples one after the other

-- the encoding of samples has the bytes of one sample times their number
pub length-encoded : (format : Format) (samples : List ℤ)
    → length (encoded_samples format samples) ≡ length samples * sample_bytes format
length-encoded format [] = omega arith
length-encoded format (z ∷ samples) =
    let first = encoded_sample format z in
    omega (
      arith,
      length-append first (encoded_samples format samples),
      length-encoded_sample format z,
      length-encoded format samples,
    )

-- they are decoded from their bytes
pub decoded_back : (format : Format) (samples : List ℤ)
    → All (IsSample format) samples
    → decoded_samples format (length samples) (encoded_samples format samples) ≡ samples
decoded_back format [] is = refl
decoded_back format (z ∷ samples) is =
    let first = encoded_sample format z in
    let others = encoded_samples format samples in
    let long : length first ≡ sample_bytes format = length-encoded_sample format z in
    rw (
      take_at first others (sample_bytes format) long,
      drop_at first others (sample_bytes format) long,
      sample_back format z (All-head (IsSample format) z samples is),
    )
    (rw (decoded_back format samples (All-tail (IsSample format) z samples is)) refl)

-- bytes of the length of `count` samples are the encoding of the samples that they decode to
pub encoded_back : (format : Format) (count : ℕ) (bytes : List ℕ)
    → AllBytes bytes
    → length bytes ≡ count * sample_bytes format
    → (encoded_samples format (decoded_samples format count bytes) ≡ bytes)
    × (length (decoded_samples format count bytes) ≡ count)
    × All (IsSample format) (decoded_samples format count bytes)
encoded_back format zero [] is long = (refl, refl, All-nil (IsSample format))
encoded_back format zero (b ∷ bytes) is long = absurd (omega arith)
encoded_back format (suc count) bytes is long =
    let w = sample_bytes format in
    let fits : w ≤ length bytes = omega (arith, suc_times count w) in
    let first = take w bytes in
    let others = drop w bytes in
    let split : first ++ others ≡ bytes = take-append-drop w bytes in
    let size : length first ≡ w = length-take-le w bytes fits in
    let rest : length others ≡ count * w =
    omega (arith, suc_times count w, length-append first others, ap length split) in
    let (same, sample) = sample_of_bytes format first (All-take (λ b. b < 256) w bytes is) size in
    let (back, many, each) =
    encoded_back format count others (All-drop (λ b. b < 256) w bytes is) rest in (
      ap (λ l. l ++ encoded_samples format (decoded_samples format count others)) same
          ∙ ap (λ l. first ++ l) back
          ∙ split,
      ap suc many,
      All-cons (IsSample format) (decoded_sample format first)
          (decoded_samples format count others) sample each,
    )
  where
    suc_times : (n w : ℕ) → suc n * w ≡ w + n * w
    suc_times n w = omega arith

-- the bytes of U8 samples are the samples
pub decoded-U8 : (count : ℕ) (bytes : List ℕ)
    → length bytes ≡ count * sample_bytes U8
    → map pos bytes ≡ decoded_samples U8 count bytes
decoded-U8 zero [] long = refl
decoded-U8 zero (b ∷ bytes) long = absurd (omega arith)
decoded-U8 (suc count) [] long = absurd (omega arith)
decoded-U8 (suc count) (b ∷ bytes) long = ap (λ l. pos b ∷ l) (decoded-U8 count bytes (omega arith))
