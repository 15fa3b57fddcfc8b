-- A value that is read has one encoding: the bytes that it was read from.
use Rattle.std.proofs.Common.{◌≡◌, ℕ, ◌+◌, ◌*◌, ◌<◌, ◌≤◌, nat_le, nat_lt, length, take, drop, sym, take-append-drop, length-take-le, ◌^◌, ◌%◌, ◌/◌, ◌==◌, List, [], ◌∷◌, ◌++◌, Option, Some, None, Result, Ok, Err, Bool, true, false, ◌⊎◌, inl, inr, IsTrue, if◌then◌else◌, unwrap_or, arith, refl, ap, subst, ◌∙◌, append_assoc, All, IfSome, eqb-true, leb-true}
use Rattle.vx_wire.proofs.Common.{nat_tests, w16, w32, to_be_bytes, All-head, All-tail, All-take, All-drop, U8, S16, U32, IsReference, is_side, IsDescription, may_be_side, IsPartialDescription, is_slot_count, IsRectangle, are_bins, BodyFault, InvalidParameters, InvalidFormat, InvalidDimension, InvalidValue, FieldResult, and_then, allowed_or_fault, take_byte, take_short, take_long, take_bytes, take_format, format_number, open_format_number, take_open_format, take_side, take_description, description_bytes, open_side_number, open_side_numbered, take_open_side, take_partial_desc, partial_desc_bytes, slot_numbered, take_reference, reference_bytes, take_slots, take_rectangle, rectangle_bytes, is_up_to_256, take_bins, bins_bytes}
use Rattle.vx_base.specs.Rectangle.{rectangle, is_rectangle}
use Rattle.std.proofs.lemmas.Option.{cond_some}
use Rattle.vx_wire.specs.Format.{format_numbered, open_format_numbered}
use Rattle.vx_wire.proofs.NodeShape.{both}
use Rattle.vx_wire.proofs.Numbers.{number_is}

abbrev pub AllBytes : List ℕ → Type 0
AllBytes bytes = All (λ b. b < 256) bytes

abbrev pub ok : {A : Type 0} → A → List ℕ → FieldResult A
ok x rest = Ok (x, rest)

pub taken_same : {A : Type 0} (x y : A) (r s : List ℕ) → ok x r ≡ ok y s → (x ≡ y) × (r ≡ s)
taken_same {A} x y r s e =
    let t : A × List ℕ = (x, r) in
    let u : A × List ℕ = (y, s) in
    let same : t ≡ u = cc in
    (ap (λ t. t.0) same, ap (λ t. t.1) same)

-- the first field, and those after it
pub then_of : {A B : Type 0} (t : FieldResult A) (next : A → List ℕ → Result B BodyFault) (r : B)
    → and_then t next ≡ Ok r
    → (x : A) × (rest : List ℕ) × (t ≡ Ok (x, rest)) × (next x rest ≡ Ok r)
then_of (Ok taken) next r e = (taken.0, taken.1, refl, e)
then_of (Err fault) next r e = cc

pub allowed_of : {A : Type 0} (fault : BodyFault) (o : Option A) (x : A) (rest others : List ℕ)
    → allowed_or_fault fault o rest ≡ Ok (x, others)
    → (o ≡ Some x) × (rest ≡ others)
allowed_of fault None x rest others e = cc
allowed_of fault (Some y) x rest others e =
    let (same, behind) = taken_same y x rest others e in (ap Some same, behind)

pub if_some : {A : Type 0} (b : Bool) (x : A) (o : Option A) (y : A)
    → (if b then Some x else o) ≡ Some y
    → ((b ≡ true) × (x ≡ y)) ⊎ ((b ≡ false) × (o ≡ Some y))
if_some true x o y e = inl (refl, cc)
if_some false x o y e = inr (refl, e)

pub if_none : {A : Type 0} (b : Bool) (o : Option A) (y : A)
    → (if b then None else o) ≡ Some y
    → (b ≡ false) × (o ≡ Some y)
if_none true o y e = cc
if_none false o y e = (refl, e)

byte_of : (body : List ℕ) (n : ℕ) (rest : List ℕ)
    → AllBytes body
    → take_byte body ≡ Ok (n, rest)
    → (body ≡ n ∷ rest) × (n < 256) × AllBytes rest
byte_of [] n rest is e = cc
byte_of (a ∷ others) n rest is e =
    let (same, behind) = taken_same a n others rest e in
    let first : a < 256 = All-head (λ b. b < 256) a others is in (
      ap (λ b. b ∷ others) same ∙ ap (λ l. n ∷ l) behind,
      omega arith,
      subst AllBytes behind (All-tail (λ b. b < 256) a others is),
    )

-- ---- fields after one another

-- a field that is read after `front`: the bytes up to its end encode its value, which has the
-- property P
pub record Reads {A : Type 0} (front : List ℕ) (take : List ℕ → FieldResult A)
    (bytes : A → List ℕ) (P : A → Type 0) : Type 0 where
  pub of : (body : List ℕ) (x : A) (rest : List ℕ)
      → AllBytes body
      → take body ≡ Ok (x, rest)
      → (front ++ body ≡ bytes x ++ rest) × P x × AllBytes rest

-- a field, and the fields after it
pub then_reads :
    {A B : Type 0} {front : List ℕ} {take : List ℕ → FieldResult A} {field : A → List ℕ}
    {P : A → Type 0} {bytes : B → List ℕ} {Q : B → Type 0}
    → Reads [] take field P
    → (next : A → List ℕ → FieldResult B)
    → ((x : A) → P x → Reads (front ++ field x) (next x) bytes Q)
    → Reads front (λ body. and_then (take body) next) bytes Q
then_reads {A} {B} {front} {take} {field} {P} {bytes} {Q} first next later = record {
  of = λ body y rest is e.
      let (x, rest1, is_x, e1) = then_of (take body) next (y, rest) e in
      let (body_is, x_is, is1) = first.of body x rest1 is is_x in
      let (all, y_is, is2) = (later x x_is).of rest1 y rest is1 e1 in
      (ap (λ l. front ++ l) body_is ∙ sym (append_assoc front (field x) rest1) ∙ all, y_is, is2);
}

-- nothing more: it is made of the fields, where that is allowed
pub made_of :
    {A : Type 0} {front : List ℕ} {bytes : A → List ℕ} {P : A → Type 0} (fault : BodyFault)
    (made : Option A)
    → ((x : A) → made ≡ Some x → (front ≡ bytes x) × P x)
    → Reads front (λ rest. allowed_or_fault fault made rest) bytes P
made_of {A} {front} {bytes} {P} fault made are = record {
  of = λ body x rest is e.
      let (same, behind) = allowed_of fault made x body rest e in
      let (spelled, x_is) = are x same in
      (ap (λ l. l ++ body) spelled ∙ ap (λ l. bytes x ++ l) behind, x_is, subst AllBytes behind is);
}

pub made : {A : Type 0} {front : List ℕ} {bytes : A → List ℕ} {P : A → Type 0} (x : A)
    → front ≡ bytes x
    → P x
    → Reads front (λ rest. ok x rest) bytes P
made {A} {front} {bytes} {P} x spelled x_is = record {
  of = λ body y rest is e.
      let (same, behind) = taken_same x y body rest e in (
        ap (λ l. l ++ body) spelled
            ∙ ap (λ x. bytes x ++ body) same
            ∙ ap (λ l. bytes y ++ l) behind,
        subst P same x_is,
        subst AllBytes behind is,
      );
}

-- a field that is made of another one
pub one_made :
    {A B : Type 0} {take : List ℕ → FieldResult A} {field : A → List ℕ} {P : A → Type 0}
    {bytes : B → List ℕ} {Q : B → Type 0}
    → Reads [] take field P
    → (fault : BodyFault) (made : A → Option B)
    → ((x : A) (y : B) → P x → made x ≡ Some y → (field x ≡ bytes y) × Q y)
    → Reads [] (λ body. and_then (take body) (λ x rest. allowed_or_fault fault (made x) rest))
    bytes Q
one_made first fault made are =
    then_reads first (λ x rest. allowed_or_fault fault (made x) rest)
    (λ x x_is. made_of fault (made x) (λ y same. are x y x_is same))

pub passed : {A : Type 0} (test : A → Bool) (x y : A)
    → (if test x then Some x else None) ≡ Some y
    → (x ≡ y) × IsTrue (test y)
passed test x y e =
    let (is, same) = cond_some (test x) x y e in (same, subst (λ z. IsTrue (test z)) same is)

-- a field that passes a test
pub tested : {A : Type 0} {take : List ℕ → FieldResult A} {bytes : A → List ℕ} {P : A → Type 0}
    → Reads [] take bytes P
    → (fault : BodyFault) (test : A → Bool)
    → Reads []
    (λ body. and_then (take body)
    (λ x rest. allowed_or_fault fault (if test x then Some x else None) rest))
    bytes (λ x. IsTrue (test x))
tested {A} {take} {bytes} {P} first fault test =
    one_made first fault (λ x. if test x then Some x else None)
    (λ x y x_is e. let (same, is) = passed test x y e in (ap bytes same, is))

pub byte_reads : Reads [] take_byte (λ n. n ∷ []) (λ n. n < 256)
byte_reads = record { of = byte_of }

-- the bytes of a number are those of its halves
bytes_joined : (a b n : ℕ)
    → 65536 * a + b ≡ n
    → b < 65536
    → to_be_bytes w16 a ++ to_be_bytes w16 b ≡ to_be_bytes w32 n
bytes_joined a b n is below =
    let e3 : a / 256 % 256 ≡ n / 16777216 % 256 = omega arith in
    let e2 : a % 256 ≡ n / 65536 % 256 = omega arith in
    let e1 : b / 256 % 256 ≡ n / 256 % 256 = omega arith in
    let e0 : b % 256 ≡ n % 256 = omega arith in
    cc

short_reads : Reads [] take_short (λ n. to_be_bytes w16 n) (λ n. n < 2 ^ 16)
short_reads =
    then_reads byte_reads _ (λ a a_below. then_reads byte_reads _ (λ b b_below.
    let high : a ≡ (256 * a + b) / 256 % 256 = omega arith in
    let low : b ≡ (256 * a + b) % 256 = omega arith in
    made (256 * a + b) (cc) (omega arith)))

pub long_reads : Reads [] take_long (λ n. to_be_bytes w32 n) (λ n. n < 2 ^ 32)
long_reads =
    then_reads short_reads _ (λ a a_below. then_reads short_reads _ (λ b b_below.
    made (65536 * a + b) (bytes_joined a b (65536 * a + b) refl b_below) (omega arith)))

enough_of : (b : Bool) (x y rest others : List ℕ)
    → (if b then ok x rest else Err InvalidParameters) ≡ ok y others
    → (b ≡ true) × (x ≡ y) × (rest ≡ others)
enough_of true x y rest others e = let p = taken_same x y rest others e in (refl, p.0, p.1)
enough_of false x y rest others e = cc

-- a number of bytes
pub bytes_reads : (n : ℕ)
    → Reads [] (take_bytes n) (λ bytes. bytes) (λ bytes. (length bytes ≡ n) × AllBytes bytes)
bytes_reads n = record {
  of = λ body bytes rest is e.
      let (enough, same, behind) =
      enough_of (nat_le n (length body)) (take n body) bytes (drop n body) rest e in
      let long : n ≤ length body = leb-true n (length body) enough in (
        sym (take-append-drop n body)
            ∙ ap (λ l. l ++ drop n body) same
            ∙ ap (λ l. bytes ++ l) behind,
        (
          ap length (sym same)
              ∙ length-take-le n body long,
          subst AllBytes same (All-take (λ b. b < 256) n body is),
        ),
        subst AllBytes behind (All-drop (λ b. b < 256) n body is),
      );
}

-- ---- formats, sides, descriptions, partial descriptions, references, rectangles, numbers of
-- slots, bins

format_reads : Reads [] take_format (λ format. format_number format ∷ []) (λ format. Unit {0})
format_reads =
    one_made byte_reads InvalidFormat format_numbered
    (λ n format below e.
    (ap (λ x. x ∷ []) (number_is format_number (U8 ∷ S16 ∷ U32 ∷ []) n format e), tt))

side_reads : Reads [] take_side (λ n. to_be_bytes w16 n) (λ n. IsTrue (is_side n))
side_reads = tested short_reads InvalidDimension is_side

pub description_reads : Reads [] take_description description_bytes IsDescription
description_reads =
    then_reads format_reads _
    (λ format f. then_reads side_reads _ (λ width w. then_reads side_reads _ (λ height h.
    made (record { width = width; height = height; format = format }) refl
    (record { width = w; height = h }))))

open_format_reads :
    Reads [] take_open_format (λ format. open_format_number format ∷ []) (λ format. Unit {0})
open_format_reads =
    one_made byte_reads InvalidFormat open_format_numbered (λ n format below e. (
      ap (λ x. x ∷ [])
          (number_is open_format_number (None ∷ Some U8 ∷ Some S16 ∷ Some U32 ∷ []) n format e),
      tt,
    ))

number_of_side : (n : ℕ) (side : Option ℕ)
    → open_side_numbered n ≡ Some side
    → (n ≡ open_side_number side) × IsTrue (may_be_side side)
number_of_side n side e =
    elim (if_some (n == 0) None (if is_side n then Some (Some n) else None) side e) [
      | inl h ↦
          (eqb-true n 0 h.0 ∙ ap open_side_number h.1, subst (λ s. IsTrue (may_be_side s)) h.1 refl)
      | inr h ↦ let (is, same) =
          cond_some (is_side n) (Some n) side h.1 in (
            ap open_side_number same,
            subst (λ s. IsTrue (may_be_side s)) same is,
          )
    ]

open_side_reads :
    Reads [] take_open_side (λ side. to_be_bytes w16 (open_side_number side))
    (λ side. IsTrue (may_be_side side))
open_side_reads =
    one_made short_reads InvalidDimension open_side_numbered
    (λ n side below e. let (number, is) = number_of_side n side e in
    (ap (λ x. to_be_bytes w16 x) number, is))

pub partial_desc_reads : Reads [] take_partial_desc partial_desc_bytes IsPartialDescription
partial_desc_reads =
    then_reads open_format_reads _
    (λ format f. then_reads open_side_reads _ (λ width w. then_reads open_side_reads _ (λ height h.
    made (record { width = width; height = height; format = format }) refl
    (both (may_be_side width) (may_be_side height) w h))))

number_of_slot : (n : ℕ)
    → n < 256
    → (n ≡ unwrap_or (slot_numbered n) 255) × IfSome (slot_numbered n) (λ k. k < 255)
number_of_slot n below = (grind (arith, nat_tests), grind (arith, nat_tests))

pub cell_reads : Reads [] take_reference reference_bytes IsReference
cell_reads =
    then_reads long_reads _ (λ name n. then_reads byte_reads _ (λ slot s.
    let (slot_is, within) = number_of_slot slot s in
    made (record { name = name; slot = slot_numbered slot })
    (ap (λ k. to_be_bytes w32 name ++ k ∷ []) slot_is) (record { name = n; slot = within })))

pub rectangle_reads : Reads [] take_rectangle rectangle_bytes IsRectangle
rectangle_reads =
    then_reads short_reads _
    (λ x0 a. then_reads short_reads _
    (λ y0 b. then_reads short_reads _ (λ x1 c. then_reads short_reads _ (λ y1 d.
    made_of InvalidValue (rectangle x0 y0 x1 y1) (λ r e.
    let (bounds, same) =
    cond_some (is_rectangle x0 y0 x1 y1) (record { x0 = x0; y0 = y0; x1 = x1; y1 = y1 }) r e in (
      ap rectangle_bytes same,
      subst IsRectangle same
          (record { bounds = bounds; columns = c; rows = d }),
    ))))))

pub slots_reads : Reads [] take_slots (λ n. n ∷ []) (λ n. IsTrue (is_slot_count n))
slots_reads = tested byte_reads InvalidValue is_slot_count

pub bins_reads : Reads [] take_bins bins_bytes (λ b. IsTrue (are_bins b.bins b.offset b.range))
bins_reads =
    let up_to_256 = tested short_reads InvalidValue is_up_to_256 in
    then_reads up_to_256 _
    (λ bins b. then_reads (tested short_reads InvalidValue (λ n. nat_lt n 256)) _
    (λ offset o. then_reads up_to_256 _ (λ range r.
    made (record { bins = bins; offset = offset; range = range }) refl (rw (b, o, r) refl))))
