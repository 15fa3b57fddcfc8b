-- The lookup of a value by its number.
use Rattle.std.specs.Prelude.{ℕ, ◌==◌, List, Option}
use Rattle.std.specs.List.{find}

-- the list's first value whose number is `n`
abbrev pub with_number : {A : Type 0} → (A → ℕ) → List A → ℕ → Option A
with_number number all n = find (λ x. n == number x) all
