-- Membership in lists.
use Rattle.std.specs.Prelude.{◌≡◌, List, [], ◌∷◌, ◌⊎◌}

-- x is a member of the list
abbrev pub In : {X : Type 0} → X → List X → Type 0
In x [] = ⊥
In x (y ∷ ys) = (x ≡ y) ⊎ In x ys

-- each member of xs is a member of ys
abbrev pub AllIn : {X : Type 0} → List X → List X → Type 0
AllIn {X} xs ys = (x : X) → In x xs → In x ys

-- xs has some of the members of ys, possibly all or none, in the same order
abbrev pub IsSublist : {X : Type 0} → List X → List X → Type 0
IsSublist xs [] = xs ≡ []
IsSublist {X} xs (y ∷ ys) =
    IsSublist xs ys ⊎ ((rest : List X) × (xs ≡ y ∷ rest) × IsSublist rest ys)
