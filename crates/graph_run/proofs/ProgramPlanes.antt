-- The tables that a graph's nodes read.
use Rattle.std.proofs.Common.{◌≡◌, ℕ, ◌<◌, List, [], ◌∷◌, map, length, get_or, refl, ap, ◌∙◌, inl, inr, None}
use Rattle.std.proofs.lemmas.List.{get_or-map}
use Rattle.graph_run.proofs.Common.{In, NamedObject, Node}
use Rattle.graph_run.specs.Program.{node_table, tables_of}

-- ---- lists

pub map_alike : {X Y : Type 0} (f g : X → Y) (xs : List X)
    → ((x : X) → In x xs → f x ≡ g x)
    → map f xs ≡ map g xs
map_alike f g [] same = refl
map_alike f g (x ∷ xs) same = rw (same x (inl refl), map_alike f g xs (λ y i. same y (inr i))) refl

-- ---- tables

pub table_at : (objects : List NamedObject) (order : List Node) (k : ℕ) (n : Node)
    → k < length order
    → get_or order k n ≡ n
    → tables_of objects order k ≡ node_table objects n
table_at objects order k n below there =
    get_or-map (node_table objects) order k n None below ∙ ap (node_table objects) there
