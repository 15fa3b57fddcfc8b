-- Numbers behind gaps: what the definition takes is what the grammar says.
use Rattle.std.proofs.Common.{◌≡◌, ℕ, zero, suc, ◌+◌, ◌-◌, ◌*◌, ◌<◌, inl, inr, Bool, true, false, if◌then◌else◌, List, [], ◌∷◌, ◌++◌, length, Option, Some, None, refl, ap, sym, subst, ◌∙◌, arith, append_assoc, append-nil}
use Rattle.pgm_images.proofs.Common.{cases_Bool, is_ascii_digit, option_map, all_ascii_digits, begins_digit, begins_gap, past_blanks, digits_after, take_next, ends, take_count, IsBlanks, IsSpaced, AreSpaced, digits_value}
use Rattle.std.specs.Option.{option_and_then}
use Rattle.pgm_images.specs.Marks.{take_number}
use Rattle.pgm_images.proofs.ReadingLemmas.{same_pair, then_some, map_some, if_some}
use Rattle.pgm_images.proofs.DigitLemmas.{value_after, value_more, digits_model, first_digit, digit_begins}
use Rattle.pgm_images.proofs.GapLemmas.{gap_begins, no_digit, skip_blanks, passed, blanks_no_digit, ends_of}

-- ---- digits

abbrev pub pair : ℕ → List ℕ → ℕ × List ℕ
pair n rest = (n, rest)

digits_then : (m : ℕ) (ds rest : List ℕ)
    → all_ascii_digits ds ≡ true
    → begins_digit rest ≡ false
    → digits_after m (ds ++ rest) ≡ pair (value_after m ds) rest
digits_then m [] [] are none = refl
digits_then m [] (b ∷ rest) are none = rw none refl
digits_then m (c ∷ cs) rest are none =
    let (first, others) = first_digit c cs are in
    rw first (digits_then (m * 10 + (c - 48)) cs rest others none)
    ∙ ap (λ v. pair v rest) (sym (value_more m c cs first))

abbrev pub Split : ℕ → List ℕ → Type 0
Split m text =
    (digits rest : List ℕ)
    × (all_ascii_digits digits ≡ true)
    × (text ≡ digits ++ rest)
    × (digits_after m text ≡ pair (value_after m digits) rest)
    × (begins_digit rest ≡ false)

split : (text : List ℕ) (m : ℕ) → Split m text
split [] m = ([], [], refl, refl, refl, refl)
split (c ∷ text) m = elim (cases_Bool (is_ascii_digit c)) [
  | inl first ↦
      let (digits, rest, are, spelled, is, none) = split text (m * 10 + (c - 48)) in (
        c ∷ digits,
        rest,
        rw first are,
        ap (λ l. c ∷ l) spelled,
        rw first is ∙ ap (λ v. pair v rest) (sym (value_more m c digits first)),
        none,
      )
  | inr other ↦ ([], c ∷ text, refl, refl, rw other refl, other)
]

pub value_is : (digits : List ℕ)
    → all_ascii_digits digits ≡ true
    → value_after 0 digits ≡ digits_value 10 digits
value_is digits are = digits_model.same digits (digits_model.to digits are)

-- ---- a number

some_digits : (digits rest : List ℕ) (c : ℕ) (text : List ℕ)
    → c ∷ text ≡ digits ++ rest
    → is_ascii_digit c ≡ true
    → begins_digit rest ≡ false
    → 0 < length digits
some_digits [] rest c text e is none = cc (ap begins_digit e)
some_digits (d ∷ digits) rest c text e is none = omega arith

number_of : (text : List ℕ) (n : ℕ) (rest : List ℕ) → take_number text ≡ Some (n, rest)
    → (digits : List ℕ)
    × (all_ascii_digits digits ≡ true)
    × (0 < length digits)
    × (digits_value 10 digits ≡ n)
    × (text ≡ digits ++ rest)
    × (begins_digit rest ≡ false)
number_of [] n rest e = cc
number_of (c ∷ text) n rest e =
    let (is, same) = if_some (is_ascii_digit c) (digits_after 0 (c ∷ text)) (pair n rest) e in
    let (digits, others, are, spelled, value, none) = split (c ∷ text) 0 in
    let (first, behind) = same_pair (value_after 0 digits) n others rest (sym value ∙ same) in (
      digits,
      are,
      some_digits digits others c text spelled is none,
      sym (value_is digits are) ∙ first,
      spelled ∙ ap (λ l. digits ++ l) behind,
      rw behind at none,
    )

number_then : (digits rest : List ℕ)
    → all_ascii_digits digits ≡ true
    → 0 < length digits
    → begins_digit rest ≡ false
    → (take_number (digits ++ rest) ≡ Some (pair (digits_value 10 digits) rest))
    × (begins_digit (digits ++ rest) ≡ true)
    × (past_blanks false (digits ++ rest) ≡ Some (digits ++ rest))
number_then [] rest are some none = absurd (omega arith)
number_then (c ∷ cs) rest are some none =
    let (first, others) = first_digit c cs are in
    let (no_comment, no_space) = digit_begins c first in (
      ap (λ is. if is then Some (digits_after 0 (c ∷ (cs ++ rest))) else None) first
          ∙ ap Some
          (digits_then 0 (c ∷ cs) rest are none ∙ ap (λ v. pair v rest) (value_is (c ∷ cs) are)),
      first,
      rw (no_comment, no_space) refl,
    )

-- ---- a gap and a number

if_taken : {A : Type 0} (b : Bool) (o : Option A) (y : A)
    → (if b then o else None) ≡ Some y
    → (b ≡ true) × (o ≡ Some y)
if_taken true o y e = (refl, e)
if_taken false o y e = cc

some_gap : (gap middle digits rest text : List ℕ)
    → text ≡ gap ++ middle
    → middle ≡ digits ++ rest
    → all_ascii_digits digits ≡ true
    → 0 < length digits
    → begins_gap text ≡ true
    → 0 < length gap
some_gap [] middle [] rest text e k are some begins = absurd (omega arith)
some_gap [] middle (c ∷ cs) rest text e k are some begins =
    cc (ap begins_digit (e ∙ k), no_digit text begins, (first_digit c cs are).0)
some_gap (b ∷ gap) middle digits rest text e k are some begins = omega arith

and_then_some : (o : Option (List ℕ)) (y : ℕ × List ℕ)
    → option_and_then take_number o ≡ Some y
    → (middle : List ℕ) × (o ≡ Some middle) × (take_number middle ≡ Some y)
and_then_some None y e = cc
and_then_some (Some middle) y e = (middle, refl, e)

-- and no digit follows it
pub spaced_of : (text : List ℕ) (n : ℕ) (rest : List ℕ)
    → take_next text ≡ Some (n, rest)
    → (first : List ℕ) × IsSpaced first n × (text ≡ first ++ rest) × (begins_digit rest ≡ false)
spaced_of text n rest e =
    let (begins, taken) =
    if_taken (begins_gap text) (option_and_then take_number (past_blanks false text))
    (pair n rest) e in
    let (middle, blanks, number) = and_then_some (past_blanks false text) (pair n rest) taken in
    let (gap, are_blanks, spelled) = passed false text middle blanks in
    let (digits, are, one, value, is, none) = number_of middle n rest number in
    let some = some_gap gap middle digits rest text spelled is are one begins in (
      gap ++ digits,
      record {
        gap = gap;
        digits = digits;
        spelled = refl;
        blanks = are_blanks;
        some = some;
        decimal = are;
        one = one;
        value = value;
      },
      spelled ∙ ap (λ l. gap ++ l) is ∙ sym (append_assoc gap digits rest),
      none,
    )

pub spaced_next : (first rest : List ℕ) (n : ℕ)
    → IsSpaced first n
    → begins_digit rest ≡ false
    → take_next (first ++ rest) ≡ Some (n, rest)
spaced_next first rest n is none =
    let (number, digit, stops) = number_then is.digits rest is.decimal is.one none in
    rw (
      is.spelled,
      append_assoc is.gap is.digits rest,
      gap_begins is.gap (is.digits ++ rest) is.blanks is.some,
      skip_blanks is.gap (is.digits ++ rest) is.blanks,
      stops,
      number,
      is.value,
    ) refl

-- ---- numbers behind gaps

pub spaced_no_digit : (numbers body rest : List ℕ)
    → AreSpaced body numbers
    → begins_digit rest ≡ false
    → begins_digit (body ++ rest) ≡ false
spaced_no_digit [] body rest are none = rw are none
spaced_no_digit (n ∷ numbers) body rest (first, more, is, are, spelled) none =
    rw (
      spelled,
      is.spelled,
      append_assoc (is.gap ++ is.digits) more rest,
      append_assoc is.gap is.digits (more ++ rest),
    )
    (no_digit (is.gap ++ (is.digits ++ (more ++ rest)))
    (gap_begins is.gap (is.digits ++ (more ++ rest)) is.blanks is.some))

ends_blanks : (end : List ℕ) → IsBlanks end → ends end ≡ true
ends_blanks end are =
    let nothing : past_blanks false end ≡ Some [] =
    ap (past_blanks false) (sym (append-nil end)) ∙ skip_blanks end [] are in
    rw nothing refl

pub many_spaced : (numbers body end : List ℕ)
    → AreSpaced body numbers
    → IsBlanks end
    → take_count take_next ends (length numbers) (body ++ end) ≡ Some numbers
many_spaced [] body end are blanks = rw are (rw (ends_blanks end blanks) refl)
many_spaced (n ∷ numbers) body end (first, more, is, are, spelled) blanks =
    let none : begins_digit end ≡ false = simp append-nil at (blanks_no_digit end [] blanks refl) in
    let taken = spaced_next first (more ++ end) n is (spaced_no_digit numbers more end are none) in
    rw (spelled, append_assoc first more end, taken, many_spaced numbers more end are blanks) refl

pub spaced_many : (count : ℕ) (text numbers : List ℕ)
    → take_count take_next ends count text ≡ Some numbers
    → (body end : List ℕ) × AreSpaced body numbers × IsBlanks end × (text ≡ body ++ end)
spaced_many zero text numbers e =
    let (end, none) = if_some (ends text) [] numbers e in
    ([], text, subst (AreSpaced []) none refl, ends_of text end, refl)
spaced_many (suc count) text numbers e =
    let (n, rest, taken, e1) =
    then_some (take_next text)
    (λ number rest. option_map (λ others. number ∷ others) (take_count take_next ends count rest))
    numbers e in
    let (others, many, same) =
    map_some (λ others. n ∷ others) (take_count take_next ends count rest) numbers e1 in
    let (first, is, spelled, none) = spaced_of text n rest taken in
    let (body, end, are, blanks, behind) = spaced_many count rest others many in (
      first ++ body,
      end,
      subst (AreSpaced (first ++ body)) same (first, body, is, are, refl),
      blanks,
      spelled
          ∙ ap (λ l. first ++ l) behind
          ∙ sym {a = (first ++ body) ++ end} (append_assoc first body end),
    )
