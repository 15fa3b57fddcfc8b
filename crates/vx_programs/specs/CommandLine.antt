-- The meaning of the program's command line.
use Rattle.std.specs.Prelude.{ℕ, List, Option, Some, None, if◌then◌else◌}
use Rattle.std.specs.Option.{option_and_then}
use Rattle.std.specs.Str.{all_ascii_digits}
use Rattle.std.specs.Str.Parse.{digits_value}
use Rattle.client_model.specs.Limits.{LimitsValue, is_limit, limits_from}

-- the number of bytes that a word spells, if the word has only digits and the number is 1 to 2^40;
-- an empty word spells 0, and so gives None
abbrev pub parse_bytes : List ℕ → Option ℕ
parse_bytes word =
    if all_ascii_digits word then
    (if is_limit (digits_value 10 word) then Some (digits_value 10 word) else None) else None

-- the limits that two words spell: the quota and the work bytes
abbrev pub parse_limits : List ℕ → List ℕ → Option LimitsValue
parse_limits quota work =
    option_and_then (λ q. option_and_then (limits_from q) (parse_bytes work)) (parse_bytes quota)
