-- Each field is read back from its bytes.
use Rattle.std.proofs.Common.{◌≡◌, ℕ, ℤ, ◌+◌, ◌*◌, ◌<◌, ◌^◌, ◌%◌, ◌/◌, ◌==◌, ◌&&◌, List, ◌∷◌, ◌++◌, Option, Some, None, Ok, Bool, true, false, IsTrue, if◌then◌else◌, nat_le, nat_lt, unwrap_or, length, arith, length-append, refl, ap, ◌∙◌, take_at, drop_at, All, IfSome, le-leb}
use Rattle.vx_wire.proofs.Common.{w16, w32, to_be_bytes, nat_tests, BodyFault, InvalidDimension, InvalidValue, from_be_bytes-to_be_bytes_4, Format, U8, S16, U32, Reference, IsReference, Description, is_side, sample_count, IsDescription, PartialDescription, may_be_side, IsPartialDescription, IsSample, sample_bytes, PictureValue, IsPicture, is_slot_count, Rectangle, IsRectangle, BinsValue, are_bins, FieldResult, and_then, allowed_or_fault, take_byte, take_short, take_long, take_bytes, take_format, format_number, open_format_number, take_open_format, take_side, take_description, description_bytes, open_side_number, open_side_numbered, take_open_side, take_partial_desc, partial_desc_bytes, slot_numbered, take_reference, reference_bytes, encoded_samples, take_samples, take_picture, picture_bytes, take_slots, take_rectangle, rectangle_bytes, is_up_to_256, take_bins, bins_bytes}
use Rattle.vx_wire.specs.Bins.{take_up_to_256, take_offset}
use Rattle.vx_base.proofs.RectangleLaws.{rectangle_ordered}
use Rattle.vx_wire.proofs.NodeShape.{both_of}
use Rattle.vx_wire.proofs.SampleBytes.{length-encoded, decoded_back}

-- a field that is made of another one
pub allowed_back :
    {A B : Type 0} (t : FieldResult A) (x : A) (y : B) (rest : List ℕ) (fault : BodyFault)
    (made : A → Option B)
    → t ≡ Ok (x, rest)
    → made x ≡ Some y
    → and_then t (λ x rest. allowed_or_fault fault (made x) rest) ≡ Ok (y, rest)
allowed_back t x y rest fault made is so = rw (is, so) refl

-- a number and that of its bytes
short_is : (n : ℕ) → n < 2 ^ 16 → 256 * (n / 256 % 256) + n % 256 ≡ n
short_is n below = omega arith

long_is : (n : ℕ)
    → n < 2 ^ 32
    → 65536 * (256 * (n / 16777216 % 256) + n / 65536 % 256) + (256 * (n / 256 % 256) + n % 256) ≡ n
long_is n below = omega (arith, from_be_bytes-to_be_bytes_4 n below)

pub long_back : (n : ℕ) (rest : List ℕ)
    → n < 2 ^ 32
    → take_long (to_be_bytes w32 n ++ rest) ≡ Ok (n, rest)
long_back n rest below = rw (long_is n below) refl

-- numbers that pass a test
pub tested_byte_back : (fault : BodyFault) (test : ℕ → Bool) (n : ℕ) (rest : List ℕ)
    → IsTrue (test n)
    → and_then (take_byte (n ∷ rest))
    (λ n rest. allowed_or_fault fault (if test n then Some n else None) rest)
    ≡ Ok (n, rest)
tested_byte_back fault test n rest is =
    ap (λ b. allowed_or_fault fault (if b then Some n else None) rest) is

tested_short_back : (fault : BodyFault) (test : ℕ → Bool) (n : ℕ) (rest : List ℕ)
    → n < 2 ^ 16
    → IsTrue (test n)
    → and_then (take_short (to_be_bytes w16 n ++ rest))
    (λ n rest. allowed_or_fault fault (if test n then Some n else None) rest)
    ≡ Ok (n, rest)
tested_short_back fault test n rest below is = rw (short_is n below, is) refl

format_back : (format : Format) (rest : List ℕ)
    → take_format (format_number format ∷ rest) ≡ Ok (format, rest)
format_back U8 rest = refl
format_back S16 rest = refl
format_back U32 rest = refl

side_below : (n : ℕ) → IsTrue (is_side n) → n < 2 ^ 16
side_below n is = grind (arith, nat_tests)

side_back : (n : ℕ) (rest : List ℕ)
    → IsTrue (is_side n)
    → take_side (to_be_bytes w16 n ++ rest) ≡ Ok (n, rest)
side_back n rest is = tested_short_back InvalidDimension is_side n rest (side_below n is) is

pub description_back : (d : Description) (rest : List ℕ)
    → IsDescription d
    → take_description (description_bytes d ++ rest) ≡ Ok (d, rest)
description_back d rest is =
    rw (format_back d.format _, side_back d.width _ is.width, side_back d.height _ is.height) refl

open_format_back : (format : Option Format) (rest : List ℕ)
    → take_open_format (open_format_number format ∷ rest) ≡ Ok (format, rest)
open_format_back None rest = refl
open_format_back (Some U8) rest = refl
open_format_back (Some S16) rest = refl
open_format_back (Some U32) rest = refl

open_side_below : (side : Option ℕ) → IsTrue (may_be_side side) → open_side_number side < 2 ^ 16
open_side_below None is = omega arith
open_side_below (Some n) is = side_below n is

numbered_side : (side : Option ℕ)
    → IsTrue (may_be_side side)
    → open_side_numbered (open_side_number side) ≡ Some side
numbered_side None is = refl
numbered_side (Some n) is =
    let some : (n == 0) ≡ false = grind (arith, nat_tests) in rw (some, is) refl

open_side_back : (side : Option ℕ) (rest : List ℕ)
    → IsTrue (may_be_side side)
    → take_open_side (to_be_bytes w16 (open_side_number side) ++ rest) ≡ Ok (side, rest)
open_side_back side rest is =
    rw (short_is (open_side_number side) (open_side_below side is), numbered_side side is) refl

pub partial_desc_back : (o : PartialDescription) (rest : List ℕ)
    → IsPartialDescription o
    → take_partial_desc (partial_desc_bytes o ++ rest) ≡ Ok (o, rest)
partial_desc_back o rest is =
    let (width, height) = both_of (may_be_side o.width) (may_be_side o.height) is in
    rw (
      open_format_back o.format _,
      open_side_back o.width _ width,
      open_side_back o.height _ height,
    ) refl

slot_back : (slot : Option ℕ)
    → IfSome slot (λ k. k < 255)
    → slot_numbered (unwrap_or slot 255) ≡ slot
slot_back None is = refl
slot_back (Some k) is = let other : (k == 255) ≡ false = grind (arith, nat_tests) in rw other refl

pub cell_back : (cell : Reference) (rest : List ℕ)
    → IsReference cell
    → take_reference (reference_bytes cell ++ rest) ≡ Ok (cell, rest)
cell_back cell rest is = rw (long_is cell.name is.name, slot_back cell.slot is.slot) refl

starts_below : (r : Rectangle) → IsRectangle r → (r.x0 < 2 ^ 16) × (r.y0 < 2 ^ 16)
starts_below r h =
    let ordered = rectangle_ordered r h.bounds in
    (omega (arith, ordered.columns, h.columns), omega (arith, ordered.rows, h.rows))

pub rectangle_back : (r : Rectangle) (rest : List ℕ)
    → IsRectangle r
    → take_rectangle (rectangle_bytes r ++ rest) ≡ Ok (r, rest)
rectangle_back r rest h =
    let (first_column, first_row) = starts_below r h in
    rw (
      short_is r.x0 first_column,
      short_is r.y0 first_row,
      short_is r.x1 h.columns,
      short_is r.y1 h.rows,
      h.bounds,
    ) refl

pub slots_back : (n : ℕ) (rest : List ℕ)
    → IsTrue (is_slot_count n)
    → take_slots (n ∷ rest) ≡ Ok (n, rest)
slots_back n rest is = tested_byte_back InvalidValue is_slot_count n rest is

up_to_256_below : (n : ℕ) → IsTrue (is_up_to_256 n) → n < 2 ^ 16
up_to_256_below n is = grind (arith, nat_tests)

up_to_256_back : (n : ℕ) (rest : List ℕ)
    → IsTrue (is_up_to_256 n)
    → take_up_to_256 (to_be_bytes w16 n ++ rest) ≡ Ok (n, rest)
up_to_256_back n rest is =
    tested_short_back InvalidValue is_up_to_256 n rest (up_to_256_below n is) is

offset_below : (n : ℕ) → IsTrue (nat_lt n 256) → n < 2 ^ 16
offset_below n is = grind (arith, nat_tests)

offset_back : (n : ℕ) (rest : List ℕ)
    → IsTrue (nat_lt n 256)
    → take_offset (to_be_bytes w16 n ++ rest) ≡ Ok (n, rest)
offset_back n rest is =
    tested_short_back InvalidValue (λ m. nat_lt m 256) n rest (offset_below n is) is

pub bins_back : (b : BinsValue) (rest : List ℕ)
    → IsTrue (are_bins b.bins b.offset b.range)
    → take_bins (bins_bytes b ++ rest) ≡ Ok (b, rest)
bins_back b rest is =
    let (front, range) =
    both_of (is_up_to_256 b.bins && nat_lt b.offset 256) (is_up_to_256 b.range) is in
    let (bins, offset) = both_of (is_up_to_256 b.bins) (nat_lt b.offset 256) front in
    rw (
      up_to_256_back b.bins _ bins,
      offset_back b.offset _ offset,
      up_to_256_back b.range _ range,
    ) refl

-- a number of bytes
pub bytes_back : (n : ℕ) (bytes rest : List ℕ)
    → length bytes ≡ n
    → take_bytes n (bytes ++ rest) ≡ Ok (bytes, rest)
bytes_back n bytes rest long =
    let enough : nat_le n (length (bytes ++ rest)) ≡ true =
    le-leb n (length (bytes ++ rest)) (omega (arith, length-append bytes rest)) in
    rw (enough, take_at bytes rest n long, drop_at bytes rest n long) refl

-- ---- samples

-- a number of samples
pub taken_back : (format : Format) (count : ℕ) (samples : List ℤ) (rest : List ℕ)
    → length samples ≡ count
    → All (IsSample format) samples
    → take_samples format count (encoded_samples format samples ++ rest) ≡ Ok (samples, rest)
taken_back format count samples rest size is =
    let bytes = encoded_samples format samples in
    let n = count * sample_bytes format in
    let long : length bytes ≡ n =
    length-encoded format samples ∙ ap (λ m. m * sample_bytes format) size in
    rw (bytes_back n bytes rest long, ← size, decoded_back format samples is) refl

pub picture_back : (p : PictureValue) (rest : List ℕ)
    → IsPicture p
    → take_picture (picture_bytes p ++ rest) ≡ Ok (p, rest)
picture_back p rest is =
    let d = p.description in
    rw (
      description_back d _ is.description,
      taken_back d.format (sample_count d) p.samples rest is.size is.sampled,
    ) refl
