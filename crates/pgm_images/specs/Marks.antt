-- The tokens of a PGM text, taken from its front: whitespace, comments and numbers (Netpbm,
-- pgm(5)).
use Rattle.std.specs.Prelude.{◌≡◌, ℕ, ◌+◌, ◌-◌, ◌*◌, ◌<◌, ◌≤◌, drop, length, slice_index, ◌==◌, ◌||◌, Bool, true, false, not, if◌then◌else◌, nat_lt, min, List, [], ◌∷◌, Option, Some, None}
use Rattle.std.specs.Option.{option_and_then}
use Rattle.std.specs.Char.{is_ascii_digit}
use Rattle.std.specs.Int.{bit_at}

-- the value of a token at the front of a text, and the text after the token; None if the text
-- doesn't begin with such a token
abbrev pub BeginsWith : Type 0 → Type 0
BeginsWith A = Option (A × List ℕ)

-- `next` applied to a token's value and the text after the token; None if there is no token
abbrev pub then_take : {A B : Type 0} → BeginsWith A → (A → List ℕ → Option B) → Option B
then_take None next = None
then_take (Some taken) next = next taken.0 taken.1

-- CR or LF, which end a comment
abbrev pub ends_line : ℕ → Bool
ends_line b = (b == 13) || (b == 10)

-- space, TAB, CR or LF
abbrev pub is_space : ℕ → Bool
is_space b = (b == 32) || (b == 9) || ends_line b

-- `#`, which begins a comment
abbrev pub begins_comment : ℕ → Bool
begins_comment b = b == 35

-- What follows all whitespace and comments at the front of a text, or None if a comment doesn't
-- end. `within` says whether the text begins inside a comment.
abbrev pub past_blanks : (within : Bool) → List ℕ → Option (List ℕ)
past_blanks true [] = None
past_blanks true (b ∷ text) = past_blanks (not (ends_line b)) text
past_blanks false [] = Some []
past_blanks false (b ∷ text) =
    if begins_comment b then past_blanks true text else if is_space b then past_blanks false
    text else Some (b ∷ text)

-- n with the text's leading digits appended, and the text after them
abbrev pub digits_after : ℕ → List ℕ → ℕ × List ℕ
digits_after n [] = (n, [])
digits_after n (b ∷ text) =
    if is_ascii_digit b then digits_after (n * 10 + (b - 48)) text else (n, b ∷ text)

-- a number: one or more digits, up to the end or to a byte that isn't a digit
abbrev pub take_number : List ℕ → BeginsWith ℕ
take_number [] = None
take_number (b ∷ text) = if is_ascii_digit b then Some (digits_after 0 (b ∷ text)) else None

-- whether the text begins with a digit
abbrev pub begins_digit : List ℕ → Bool
begins_digit [] = false
begins_digit (b ∷ text) = is_ascii_digit b

-- whether the text begins with whitespace or a comment
abbrev pub begins_gap : List ℕ → Bool
begins_gap [] = false
begins_gap (b ∷ text) = begins_comment b || is_space b

-- the number after a gap; a gap is at least one whitespace byte or comment
abbrev pub take_next : List ℕ → BeginsWith ℕ
take_next text =
    if begins_gap text then option_and_then take_number (past_blanks false text) else None

-- whether the text is nothing but whitespace and comments
abbrev pub ends : List ℕ → Bool
ends text = nothing (past_blanks false text)
  where
    nothing : Option (List ℕ) → Bool
    nothing None = false
    nothing (Some []) = true
    nothing (Some (b ∷ text)) = false

-- The code read a number from the front of a text, and `rest` is the text after it. A number above
-- 65535 is read as 65535, which is still above every limit of a PGM text.
pub record TakesNumber (taken : BeginsWith ℕ) (kept : ℕ) (rest : List ℕ) : Type 0 where
  pub number : ℕ
  pub is : taken ≡ Some (number, rest)
  pub least : kept ≡ min number 65535

-- whether the text begins with a whitespace byte
abbrev pub begins_space : List ℕ → Bool
begins_space [] = false
begins_space (b ∷ text) = is_space b

-- The code examined the front of the text, and found whitespace or a digit there. If `bytes` isn't
-- 0, the first `bytes` bytes are one whitespace byte and the digits of `number`, which is at most
-- the maxval. If `bytes` is 0, the text doesn't begin with a whitespace byte followed by a digit.
pub record FindsNumber (maxval number bytes : ℕ) (text : List ℕ) : Type 0 where
  pub few : bytes ≤ length text
  pub is : 0 < bytes → TakesNumber (take_next text) number (drop bytes text)
  pub low : 0 < bytes → number ≤ maxval
  pub space : 0 < bytes → begins_space text ≡ true
  pub digits : (k : ℕ) → 0 < k → k < bytes → begins_digit (drop k text) ≡ true
  pub kind : begins_digit text ≡ false → begins_space text ≡ true
  pub none : bytes ≡ 0 → begins_space text ≡ true → begins_digit (drop 1 text) ≡ false

-- `FindsNumber` holds at each of the first `count` positions of a text
abbrev pub FindNumbers : (maxval count : ℕ) (numbers bytes text : List ℕ) → Type 0
FindNumbers maxval count numbers bytes text =
    (place : ℕ)
    → place < count
    → FindsNumber maxval (slice_index numbers place) (slice_index bytes place) (drop place text)

-- for each of 64 positions k, bit k of `begins` is 1 exactly if `bytes` isn't 0 at position k: a
-- whitespace byte and a number begin there
abbrev pub AreBegins : (begins : ℕ) (bytes : List ℕ) → Type 0
AreBegins begins bytes =
    (place : ℕ)
    → place < 64
    → bit_at begins place ≡ (if nat_lt 0 (slice_index bytes place) then 1 else 0)

-- The code examined the first 64 positions of a text and marked the positions where a number
-- begins. The first position isn't inside a number.
pub record IsBlock (maxval : ℕ) (numbers bytes : List ℕ) (begins : ℕ) (text : List ℕ) : Type 0 where
  pub found : FindNumbers maxval 64 numbers bytes text
  pub marked : AreBegins begins bytes
  pub outside : begins_digit text ≡ false
