-- A text that was written is read back.
use Rattle.std.proofs.Common.{◌≡◌, ℕ, ℤ, pos, negsuc, ◌<◌, ◌^◌, true, nat_le, List, [], ◌∷◌, ◌++◌, length, map, unsigned_abs, Ok, inl, inr, IsTrue, refl, ap, sym, ◌∙◌, arith, decimal, append_assoc, All, le-leb}
use Rattle.pgm_images.proofs.Common.{ints, nat_tests, length-map, All-cons, All-head, All-nil, All-tail, U8, IsSample, is_side, IsPicture, PictureValue, is_space, all_up_to, read_result, pgm_text, IsSpaced, IsBlank, all_ascii_digits, digits_value}
use Rattle.std.proofs.lemmas.Fmt.{digits_decimal, digits_value-decimal, decimal_nonempty}
use Rattle.pgm_images.proofs.DigitLemmas.{digits_model}
use Rattle.pgm_images.proofs.SpacedLemmas.{value_is}
use Rattle.pgm_images.proofs.StandsLemmas.{read_stands, stands_read}

-- a number behind a whitespace byte
spaced : (space n : ℕ) (digits : List ℕ)
    → is_space space ≡ true
    → all_ascii_digits digits ≡ true
    → 0 < length digits
    → digits_value 10 digits ≡ n
    → IsSpaced (space ∷ digits) n
spaced space n digits is are some value =
    record {
      gap = space ∷ [];
      digits = digits;
      spelled = refl;
      blanks =
          record {
            parts = (space ∷ []) ∷ [];
            each = All-cons IsBlank (space ∷ []) [] (inl (is, refl))
                (All-nil IsBlank);
            spelled = refl;
          };
      some = omega arith;
      decimal = are;
      one = some;
      value = value;
    }

-- the same of a number that was written
spaced_decimal : (space n : ℕ) → is_space space ≡ true → n < 2 ^ 64 → IsSpaced (space ∷ decimal n) n
spaced_decimal space n is below =
    let digits = digits_decimal digits_model n below in
    spaced space n (decimal n) is digits (decimal_nonempty n below)
    (sym (value_is (decimal n) digits) ∙ digits_value-decimal digits_model n below)

side_below : (n : ℕ) → IsTrue (is_side n) → n < 2 ^ 64
side_below n is = grind (arith, nat_tests)

samples_bytes : (samples : List ℤ)
    → All (IsSample U8) samples
    → (map pos (map unsigned_abs samples) ≡ samples)
    × (all_up_to 255 (map unsigned_abs samples) ≡ true)
samples_bytes [] is = (refl, refl)
samples_bytes (pos n ∷ samples) is =
    let first = All-head (IsSample U8) (pos n) samples is in
    let (same, below) = samples_bytes samples (All-tail (IsSample U8) (pos n) samples is) in
    let low : nat_le n 255 ≡ true = le-leb n 255 (omega (arith, ints, first.at_most)) in
    (ap (λ l. pos n ∷ l) same, rw low below)
samples_bytes (negsuc n ∷ samples) is =
    let first = All-head (IsSample U8) (negsuc n) samples is in
    absurd (omega (arith, ints, first.at_least))

-- a picture that was written
pub read_back : (p : PictureValue)
    → IsPicture p
    → p.description.format ≡ U8
    → read_result (pgm_text p) ≡ Ok p
read_back p is same =
    let w = p.description.width in
    let h = p.description.height in
    let bytes = map unsigned_abs p.samples in
    let (back, below) = samples_bytes p.samples (rw same at is.sampled) in
    let last : List ℕ = 10 ∷ 50 ∷ 53 ∷ 53 ∷ [] in
    let ends = spaced 10 255 (50 ∷ 53 ∷ 53 ∷ []) refl refl (omega arith) refl in
    let wide = spaced_decimal 10 w refl (side_below w is.description.width) in
    let high = spaced_decimal 32 h refl (side_below h is.description.height) in
    read_stands (pgm_text p) p (record {
      maxval = 255;
      numbers = bytes;
      encoded = inr (record {
        body = (10 ∷ decimal w) ++ ((32 ∷ decimal h) ++ last);
        space = 10;
        raster = bytes;
        numbers = (
          10 ∷ decimal w,
          (32 ∷ decimal h) ++ last,
          wide,
          (32 ∷ decimal h, last, high, (last, [], ends, refl, refl), refl),
          refl,
        );
        white = refl;
        bytes = inl (omega arith, refl);
        spelled = simp append_assoc;
      });
      sides = is.description;
      allowed = refl;
      format = same;
      size = simp length-map is.size;
      below = below;
      samples = sym back;
    })

pub ruleset text_and_back = (stands_read, read_back)
