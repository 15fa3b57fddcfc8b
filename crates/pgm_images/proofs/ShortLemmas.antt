-- Numbers of at most three digits behind a whitespace byte.
use Rattle.std.proofs.Common.{◌≡◌, ℕ, ◌+◌, ◌-◌, ◌*◌, zero, suc, ◌%◌, ◌<◌, ◌≤◌, Bool, true, false, not, ◌&&◌, ◌||◌, if◌then◌else◌, nat_lt, nat_le, nat_eq, List, ◌∷◌, length, get_or, drop, Some, ap, sym, ◌∙◌, arith, ltb-true, leb-true}
use Rattle.pgm_images.proofs.Common.{is_ascii_digit, and_parts, nat_tests, is_space, begins_digit, digits_after, take_next, FindsNumber}
use mir.Val.{bool_byte}
use Rattle.std.proofs.lemmas.Bool.{not-true}
use Rattle.std.proofs.lemmas.List.{drop_more}
use Rattle.pgm_images.proofs.DigitLemmas.{digit_begins}
use Rattle.pgm_images.proofs.GapLemmas.{space_is}

-- one whitespace byte and a digit, and what follows
next_digits : (s x : ℕ) (rest : List ℕ)
    → is_space s ≡ true
    → is_ascii_digit x ≡ true
    → take_next (s ∷ x ∷ rest) ≡ Some (digits_after (x - 48) rest)
next_digits s x rest space digit =
    let no_comment = (space_is s space).0 in
    let (no_comment_either, no_space) = digit_begins x digit in
    let first : 0 * 10 + (x - 48) ≡ x - 48 = omega arith in
    rw (
      no_comment,
      space,
      no_comment_either,
      no_space,
      digit,
    ) (ap (λ n. Some (digits_after n rest)) first)

-- the cases of a short number: `two` and `three` say whether it has a second and a third digit
short_cases : (two three : Bool) (s x1 x2 x3 x4 : ℕ) (rest : List ℕ) (a b c : ℕ)
    → is_space s ≡ true
    → is_ascii_digit x1 ≡ true
    → a ≡ x1 - 48
    → two ≡ is_ascii_digit x2
    → (is_ascii_digit x2 ≡ true → b ≡ x2 - 48)
    → three ≡ is_ascii_digit x3
    → (is_ascii_digit x3 ≡ true → c ≡ x3 - 48)
    → (two && (three && is_ascii_digit x4)) ≡ false
    → take_next (s ∷ x1 ∷ x2 ∷ x3 ∷ x4 ∷ rest)
    ≡ Some (
      if two && three then (if two then a * 10 + b else a) * 10 + c else
          (if two then a * 10 + b else a),
      drop (2 + bool_byte two + bool_byte (two && three)) (s ∷ x1 ∷ x2 ∷ x3 ∷ x4 ∷ rest),
    )
short_cases false three s x1 x2 x3 x4 rest a b c space one is_a other is_b e3 is_c end =
    cc (rw (← other) at (next_digits s x1 (x2 ∷ x3 ∷ x4 ∷ rest) space one))
short_cases true false s x1 x2 x3 x4 rest a b c space one is_a is2 is_b other is_c end =
    cc (rw (← is2, ← other) at (next_digits s x1 (x2 ∷ x3 ∷ x4 ∷ rest) space one), is_b (sym is2))
short_cases true true s x1 x2 x3 x4 rest a b c space one is_a is2 is_b is3 is_c end =
    cc (
      rw (← is2, ← is3, end) at (next_digits s x1 (x2 ∷ x3 ∷ x4 ∷ rest) space one),
      is_b (sym is2),
      is_c (sym is3),
    )

byte_few : (b : Bool) → bool_byte b ≤ 1
byte_few b = grind arith

-- a number of two digits is one byte, and one of three where the code says so
tens_fit : (two : Bool) (a b tens : ℕ)
    → a < 10
    → (two ≡ true → b < 10)
    → tens ≡ (if two then a * 10 + b else a) % 256
    → (tens ≡ (if two then a * 10 + b else a)) × (tens < 100)
tens_fit two a b tens low is e = grind arith

number_fits : (three : Bool) (tens c number : ℕ)
    → tens < 100
    → (three ≡ true → c < 10)
    → ((not three || nat_lt tens 25) || (nat_eq tens 25 && nat_lt c 6)) ≡ true
    → number ≡ (if three then tens * 10 + c else tens) % 256
    → number ≡ (if three then tens * 10 + c else tens)
number_fits three tens c number low is fits e = grind (arith, nat_tests)

-- the positions of a number's digits; `two` and `three` say whether it has a second and a third
digits_in : (two three : Bool) (s x1 x2 x3 x4 : ℕ) (rest : List ℕ)
    → is_ascii_digit x1 ≡ true
    → two ≡ is_ascii_digit x2
    → three ≡ is_ascii_digit x3
    → (k : ℕ)
    → 0 < k
    → k < 2 + bool_byte two + bool_byte (two && three)
    → begins_digit (drop k (s ∷ x1 ∷ x2 ∷ x3 ∷ x4 ∷ rest)) ≡ true
digits_in two three s x1 x2 x3 x4 rest one is2 is3 zero some less = absurd (omega arith)
digits_in two three s x1 x2 x3 x4 rest one is2 is3 (suc zero) some less = one
digits_in true three s x1 x2 x3 x4 rest one is2 is3 (suc (suc zero)) some less = sym is2
digits_in false three s x1 x2 x3 x4 rest one is2 is3 (suc (suc k)) some less = absurd (omega arith)
digits_in true true s x1 x2 x3 x4 rest one is2 is3 (suc (suc (suc zero))) some less = sym is3
digits_in true false s x1 x2 x3 x4 rest one is2 is3 (suc (suc (suc k))) some less =
    absurd (omega arith)
digits_in true true s x1 x2 x3 x4 rest one is2 is3 (suc (suc (suc (suc k)))) some less =
    absurd (omega arith)

-- a front that is neither an unknown byte nor a digit is whitespace
only_blank : (blank digit : Bool) → not (blank || digit) ≡ false → digit ≡ false → blank ≡ true
only_blank blank digit e none = grind arith

-- What the code found out, step by step: white, again and front are of the first byte, a to d of
-- those
-- after it.
pub short_told :
    (white again told : Bool) (s x1 x2 x3 x4 front a b c d tens number one two three maxval : ℕ)
    (rest : List ℕ)
    → white ≡ is_space s
    → again ≡ is_space s
    → nat_lt front 10 ≡ is_ascii_digit s
    → nat_lt a 10 ≡ is_ascii_digit x1 → (is_ascii_digit x1 ≡ true → a ≡ x1 - 48)
    → nat_lt b 10 ≡ is_ascii_digit x2 → (is_ascii_digit x2 ≡ true → b ≡ x2 - 48)
    → nat_lt c 10 ≡ is_ascii_digit x3
    → (is_ascii_digit x3 ≡ true → c ≡ x3 - 48)
    → nat_lt d 10 ≡ is_ascii_digit x4
    → tens ≡ (if nat_lt b 10 then a * 10 + b else a) % 256
    → number ≡ (if nat_lt b 10 && nat_lt c 10 then tens * 10 + c else tens) % 256
    → two ≡ bool_byte (nat_lt b 10)
    → three ≡ bool_byte (nat_lt b 10 && nat_lt c 10)
    → one ≡ bool_byte told
    → told
    ≡
    ((((white && nat_lt a 10) && not ((nat_lt b 10 && nat_lt c 10) && nat_lt d 10)) &&
    ((not (nat_lt b 10 && nat_lt c 10) || nat_lt tens 25) || (nat_eq tens 25 && nat_lt c 6)))
    && nat_le number maxval)
    → not ((told || (not (nat_lt a 10) && again)) || nat_lt front 10) ≡ false
    → FindsNumber maxval number (one * (2 + two + three)) (s ∷ x1 ∷ x2 ∷ x3 ∷ x4 ∷ rest)
short_told white again true s x1 x2 x3 x4 front a b c d tens number one two three maxval rest
    is_white is_again is0 is1 is_a is2 is_b is3 is_c is4 is_tens is_number is_two is_three is_one
    begins_number known =
    let (fitting, low) = and_parts _ _ (sym begins_number) in
    let (short, fits) = and_parts _ _ fitting in
    let (begins, end) = and_parts _ _ short in
    let (space, digit) = and_parts white (nat_lt a 10) begins in
    let is_digit = sym is1 ∙ digit in
    let (tens_are, few_tens) =
    tens_fit (nat_lt b 10) a b tens (ltb-true a 10 digit) (ltb-true b 10) is_tens in
    let number_is =
    number_fits (nat_lt b 10 && nat_lt c 10) tens c number few_tens
    (λ is. ltb-true c 10 (and_parts (nat_lt b 10) (nat_lt c 10) is).1) fits is_number in
    let none : (nat_lt b 10 && (nat_lt c 10 && is_ascii_digit x4)) ≡ false =
    ap (λ e. nat_lt b 10 && (nat_lt c 10 && e)) (sym is4) ∙ grind (arith, end) in
    let found =
    short_cases (nat_lt b 10) (nat_lt c 10) s x1 x2 x3 x4 rest a b c (sym is_white ∙ space)
    is_digit (is_a is_digit) is2 is_b is3 is_c none in
    let bytes :
    one * (2 + two + three) ≡ 2 + bool_byte (nat_lt b 10) + bool_byte (nat_lt b 10 && nat_lt c 10) =
    rw (is_one, is_two, is_three) (omega arith) in
    let taken :
    take_next (s ∷ x1 ∷ x2 ∷ x3 ∷ x4 ∷ rest)
    ≡ Some (number, drop (one * (2 + two + three)) (s ∷ x1 ∷ x2 ∷ x3 ∷ x4 ∷ rest)) =
    cc (found, tens_are, number_is, bytes) in
    record {
      few = omega (arith, bytes, byte_few (nat_lt b 10), byte_few (nat_lt b 10 && nat_lt c 10));
      is = λ some. record { number = number; is = taken; least = omega (arith, is_number) };
      low = λ some. leb-true number maxval low;
      space = λ some. sym is_white ∙ space;
      digits =
          λ k some less. digits_in (nat_lt b 10) (nat_lt c 10) s x1 x2 x3 x4 rest is_digit is2
          is3 k some (omega (arith, bytes, less));
      kind = λ other. sym is_white ∙ space;
      none = λ none. absurd (omega (arith, bytes, none));
    }
short_told white again false s x1 x2 x3 x4 front a b c d tens number one two three maxval rest
    is_white is_again is0 is1 is_a is2 is_b is3 is_c is4 is_tens is_number is_two is_three is_one
    begins_number known =
    let nothing : one * (2 + two + three) ≡ 0 = rw is_one (omega arith) in
    let blank : nat_lt front 10 ≡ false → (not (nat_lt a 10) ≡ true) × (again ≡ true) =
    λ none. and_parts _ _ (only_blank (not (nat_lt a 10) && again) (nat_lt front 10) known none) in
    record {
      few = omega (arith, nothing);
      is = λ some. absurd (omega (arith, nothing, some));
      low = λ some. absurd (omega (arith, nothing, some));
      space = λ some. absurd (omega (arith, nothing, some));
      digits = λ k some less. absurd (omega (arith, nothing, less));
      kind = λ other. sym is_again ∙ (blank (is0 ∙ other)).1;
      none = λ none space. sym is1 ∙ not-true (nat_lt a 10) (blank (is0 ∙ (space_is s space).1)).0;
    }

-- five bytes of a text
pub five : (text : List ℕ) (at : ℕ) → at + 5 ≤ length text
    → drop at text
    ≡ get_or text at 0
    ∷ get_or text (at + 1) 0
    ∷ get_or text (at + 2) 0
    ∷ get_or text (at + 3) 0
    ∷ get_or text (at + 4) 0
    ∷ drop (at + 5) text
five text at long =
    let step : (k : ℕ)
    → at + k < length text
    → drop (at + k) text ≡ get_or text (at + k) 0 ∷ drop (at + k + 1) text =
    λ k within. drop_more text (at + k) 0 within in
    let more : (k : ℕ) → at + k + 1 ≡ at + (k + 1) = λ k. omega arith in
    let first = drop_more text at 0 (omega arith) in
    let second = step 1 (omega arith) in
    let third = step 2 (omega arith) in
    let fourth = step 3 (omega arith) in
    let fifth = step 4 (omega arith) in
    cc (first, second, third, fourth, fifth, more 1, more 2, more 3, more 4)
