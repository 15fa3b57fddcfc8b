-- Gaps and numbers: what the definition takes is what the grammar says.
use Rattle.std.proofs.Common.{◌≡◌, ℕ, ◌<◌, inl, inr, Bool, true, false, not, List, [], ◌∷◌, ◌++◌, length, Option, Some, None, refl, ap, sym, subst, ◌∙◌, arith, append_assoc, append-nil, All}
use Rattle.pgm_images.proofs.Common.{is_ascii_digit, cases_Bool, nat_tests, All-head, All-tail, All-nil, All-cons, begins_digit, is_space, begins_comment, begins_gap, past_blanks, ends, IsBlanks, IsBlank}
use Rattle.std.specs.List.{flat_map}
use Rattle.pgm_images.specs.Marks.{ends_line}
use Rattle.pgm_images.specs.Grammar.{IsTail}

-- ---- what a text begins with

pub space_is : (b : ℕ) → is_space b ≡ true → (begins_comment b ≡ false) × (is_ascii_digit b ≡ false)
space_is b is = grind (arith, nat_tests)

-- ---- blanks

nil_blanks : IsBlanks []
nil_blanks = record { parts = []; each = All-nil IsBlank; spelled = refl }

cons_blanks : (part rest : List ℕ) → IsBlank part → IsBlanks rest → IsBlanks (part ++ rest)
cons_blanks part rest is others = record {
  parts = part ∷ others.parts;
  each = All-cons IsBlank part others.parts is others.each;
  spelled = ap (λ l. part ++ l) others.spelled;
}

-- the blanks at the front of a text, and the rest after them; the first argument says whether the
-- text begins inside a comment
abbrev pub Passed : Bool → List ℕ → List ℕ → Type 0
Passed false text rest = (blanks : List ℕ) × IsBlanks blanks × (text ≡ blanks ++ rest)
Passed true text rest =
    (tail blanks : List ℕ) × IsTail tail × IsBlanks blanks × (text ≡ tail ++ (blanks ++ rest))

pub passed : (within : Bool) (text rest : List ℕ)
    → past_blanks within text ≡ Some rest
    → Passed within text rest
passed true [] rest e = cc
passed true (b ∷ text) rest e = elim (cases_Bool (ends_line b)) [
  | inl is ↦ let (blanks, are, spelled) = passed false text rest (rw (is, past_blanks) at e) in
      (b ∷ [], blanks, inl (is, refl), are, ap (λ l. b ∷ l) spelled)
  | inr is ↦ let (tail, blanks, last, are, spelled) =
      passed true text rest (rw (is, past_blanks) at e) in
      (b ∷ tail, blanks, inr (is, last), are, ap (λ l. b ∷ l) spelled)
]
passed false [] rest e = let none : [] ≡ rest = cc in ([], nil_blanks, none)
passed false (b ∷ text) rest e = elim (cases_Bool (begins_comment b)) [
  | inl is ↦
      let (tail, blanks, last, are, spelled) = passed true text rest (rw is at e) in (
        (b ∷ tail) ++ blanks,
        cons_blanks (b ∷ tail) blanks (inr (is, last)) are,
        ap (λ l. b ∷ l) (spelled ∙ sym (append_assoc tail blanks rest)),
      )
  | inr other ↦ elim (cases_Bool (is_space b)) [
    | inl is ↦
        let (blanks, are, spelled) = passed false text rest (rw (other, is) at e) in
        (b ∷ blanks, cons_blanks (b ∷ []) blanks (inl (is, refl)) are, ap (λ l. b ∷ l) spelled)
    | inr none ↦ let same : b ∷ text ≡ rest = cc (rw (other, none) at e) in ([], nil_blanks, same)
  ]
]

-- and the other way round
skip_tail : (tail rest : List ℕ)
    → IsTail tail
    → past_blanks true (tail ++ rest) ≡ past_blanks false rest
skip_tail [] rest is = absurd is
skip_tail (b ∷ tail) rest (inl (line, none)) = rw none (ap (λ is. past_blanks (not is) rest) line)
skip_tail (b ∷ tail) rest (inr (other, is)) =
    ap (λ is. past_blanks (not is) (tail ++ rest)) other ∙ skip_tail tail rest is

skip_blank : (part rest : List ℕ)
    → IsBlank part
    → past_blanks false (part ++ rest) ≡ past_blanks false rest
skip_blank [] rest is = absurd is
skip_blank (b ∷ tail) rest (inl (space, none)) = rw (none, (space_is b space).0, space) refl
skip_blank (b ∷ tail) rest (inr (comment, is)) = rw comment (skip_tail tail rest is)

skip_parts : (parts : List (List ℕ)) (rest : List ℕ)
    → All IsBlank parts
    → past_blanks false (flat_map (λ part. part) parts ++ rest) ≡ past_blanks false rest
skip_parts [] rest each = refl
skip_parts (part ∷ parts) rest each =
    rw (
      append_assoc part (flat_map (λ part. part) parts) rest,
      skip_blank part (flat_map (λ part. part) parts ++ rest) (All-head IsBlank part parts each),
    )
    (skip_parts parts rest (All-tail IsBlank part parts each))

pub skip_blanks : (blanks rest : List ℕ)
    → IsBlanks blanks
    → past_blanks false (blanks ++ rest) ≡ past_blanks false rest
skip_blanks blanks rest are =
    ap (λ l. past_blanks false (l ++ rest)) are.spelled ∙ skip_parts are.parts rest are.each

-- some blanks begin a gap, and no digit begins where one does
blank_begins : (part rest : List ℕ) → IsBlank part → begins_gap (part ++ rest) ≡ true
blank_begins [] rest is = absurd is
blank_begins (b ∷ tail) rest (inl (space, none)) = rw ((space_is b space).0, space) refl
blank_begins (b ∷ tail) rest (inr (comment, is)) = rw comment refl

parts_begin : (parts : List (List ℕ)) (rest : List ℕ)
    → All IsBlank parts
    → 0 < length (flat_map (λ part. part) parts)
    → begins_gap (flat_map (λ part. part) parts ++ rest) ≡ true
parts_begin [] rest each some = absurd (omega arith)
parts_begin (part ∷ parts) rest each some =
    rw append_assoc
    (blank_begins part (flat_map (λ part. part) parts ++ rest) (All-head IsBlank part parts each))

pub gap_begins : (gap rest : List ℕ)
    → IsBlanks gap
    → 0 < length gap
    → begins_gap (gap ++ rest) ≡ true
gap_begins gap rest are some =
    ap (λ l. begins_gap (l ++ rest)) are.spelled
    ∙ parts_begin are.parts rest are.each (subst (λ l. 0 < length l) are.spelled some)

pub no_digit : (text : List ℕ) → begins_gap text ≡ true → begins_digit text ≡ false
no_digit [] e = refl
no_digit (b ∷ text) e = grind (arith, nat_tests)

pub blanks_no_digit : (blanks rest : List ℕ)
    → IsBlanks blanks
    → begins_digit rest ≡ false
    → begins_digit (blanks ++ rest) ≡ false
blanks_no_digit [] rest are none = none
blanks_no_digit (b ∷ blanks) rest are none =
    no_digit (b ∷ (blanks ++ rest)) (gap_begins (b ∷ blanks) rest are (omega arith))

pub ends_of : (text : List ℕ) → ends text ≡ true → IsBlanks text
ends_of text e = known (past_blanks false text) refl e
  where
    known : (o : Option (List ℕ)) → past_blanks false text ≡ o → ends text ≡ true → IsBlanks text
    known None is e = cc (rw is at e)
    known (Some []) is e =
        let (blanks, are, spelled) = passed false text [] is in
        subst IsBlanks (sym (spelled ∙ append-nil blanks)) are
    known (Some (b ∷ rest)) is e = cc (rw is at e)
