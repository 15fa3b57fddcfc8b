-- The number that digits are.
use Rattle.std.proofs.Common.{◌≡◌, ℕ, ◌+◌, ◌-◌, ◌*◌, true, false, if◌then◌else◌, List, ◌∷◌, refl, ap, arith}
use Rattle.pgm_images.proofs.Common.{and_parts, is_ascii_digit, all_ascii_digits, nat_tests, is_space, begins_comment, digits_after}
use Rattle.std.specs.Int.{IsInRange}
use Rattle.std.proofs.lemmas.Str.Parse.{IsNumeralModel, FoldsDigits, numerals_by_fold, tells_all_ascii_digits}

digit_in : (c : ℕ) → IsInRange 48 57 c → is_ascii_digit c ≡ true
digit_in c is = grind (arith, nat_tests)

-- the number that digits are, as std has it
abbrev pub value_after : ℕ → List ℕ → ℕ
value_after n ds = (digits_after n ds).0

pub value_more : (n c : ℕ) (cs : List ℕ)
    → is_ascii_digit c ≡ true
    → value_after n (c ∷ cs) ≡ value_after (n * 10 + (c - 48)) cs
value_more n c cs is =
    ap (λ b. (if b then digits_after (n * 10 + (c - 48)) cs else (n, c ∷ cs)).0) is

folds : FoldsDigits value_after
folds = record {
  empty = λ n. refl;
  more = λ n c cs is. value_more n c cs (digit_in c is);
}

pub digits_model : IsNumeralModel (λ ds. all_ascii_digits ds ≡ true) (value_after 0)
digits_model = numerals_by_fold _ tells_all_ascii_digits value_after folds

pub first_digit : (c : ℕ) (cs : List ℕ)
    → all_ascii_digits (c ∷ cs) ≡ true
    → (is_ascii_digit c ≡ true) × (all_ascii_digits cs ≡ true)
first_digit c cs e = and_parts (is_ascii_digit c) (all_ascii_digits cs) e

-- what a digit isn't
pub digit_begins : (c : ℕ)
    → is_ascii_digit c ≡ true
    → (begins_comment c ≡ false) × (is_space c ≡ false)
digit_begins c is = grind (arith, nat_tests)
