-- The meaning of a quota's word, by the number that `parse` reads from it.
use Rattle.std.proofs.Common.{◌≡◌, ◌∙◌, ◌<◌, ◌≤◌, ◌^◌, ℕ, Bool, true, List, [], ◌∷◌, length, Option, Some, None, if◌then◌else◌, Result, Ok, Err, ◌≢◌, get_or, ap, sym, subst, refl, rules, arith, inl, inr}
use Rattle.std.proofs.lemmas.Bool.{cases_Bool, cases_lt, lt-leb}
use Rattle.std.specs.Str.{all_ascii_digits}
use Rattle.std.specs.Result.{OkIff}
use Rattle.std.specs.Str.Parse.{digits_value, ParsesUnsigned}
use Rattle.std.proofs.lemmas.Str.Parse.{IsNumeralModel, numerals_by_value, tells_all_ascii_digits, parse_plain}
use Rattle.client_model.specs.Limits.{is_limit}
use Rattle.vx_programs.specs.CommandLine.{parse_bytes}

-- the words of digits, and the numbers that they write
digits_model : IsNumeralModel (λ ds. all_ascii_digits ds ≡ true) (digits_value 10)
digits_model = numerals_by_value _ tells_all_ascii_digits

-- digits that write a number below 2^64
abbrev IsNumber : List ℕ → Type 0
IsNumber word = (all_ascii_digits word ≡ true) × (0 < length word) × (digits_value 10 word < 2 ^ 64)

-- a number of bytes that is a limit
abbrev pub limit_of : ℕ → Option ℕ
limit_of n = if is_limit n then Some n else None

-- digits alone give the number that they spell
told_of_digits : (word : List ℕ)
    → all_ascii_digits word ≡ true
    → parse_bytes word ≡ limit_of (digits_value 10 word)
told_of_digits word digits =
    ap (λ (t : Bool). if t then limit_of (digits_value 10 word) else None) digits

-- a great number is no limit
great : (n : ℕ) → 2 ^ 64 ≤ n → limit_of n ≡ None
great n high = search (rules, arith, high, lt-leb n 1099511627776)

-- a word that spells no number below 2^64 gives none
told_of_others : (word : List ℕ) → (IsNumber word → ⊥) → parse_bytes word ≡ None
told_of_others [] others = refl
told_of_others (c ∷ cs) others =
    let word = c ∷ cs in
    elim (cases_Bool (all_ascii_digits word)) [
      | inr stray ↦ ap (λ (t : Bool). if t then limit_of (digits_value 10 word) else None) stray
      | inl digits ↦ elim (cases_lt (digits_value 10 word) (2 ^ 64)) [
        | inl low ↦ absurd (others (digits, omega arith, low))
        | inr high ↦ told_of_digits word digits ∙ great (digits_value 10 word) high
      ]
    ]

-- what `parse` answers for a word without a plus in front
module _ {E : Type 0} (word : List ℕ) (r : Result ℕ E) (plain : get_or word 0 0 ≢ 43)
    (read : ParsesUnsigned 64 10 word r) where
  parsed : OkIff r (IsNumber word) (digits_value 10 word)
  parsed = parse_plain digits_model 64 word r read plain

  pub told_ok : (n : ℕ) → r ≡ Ok n → parse_bytes word ≡ limit_of n
  told_ok n is =
      let found : IsNumber word × (n ≡ digits_value 10 word) =
      subst (λ (s : Result ℕ E). OkIff s (IsNumber word) (digits_value 10 word)) is parsed in
      told_of_digits word found.0.0 ∙ ap (λ (m : ℕ). limit_of m) (sym found.1)

  pub told_err : (e : E) → r ≡ Err e → parse_bytes word ≡ None
  told_err e is =
      told_of_others word
      (subst (λ (s : Result ℕ E). OkIff s (IsNumber word) (digits_value 10 word)) is parsed)
