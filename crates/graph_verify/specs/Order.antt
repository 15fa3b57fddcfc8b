-- Orders in which the nodes of a graph can run.
use Rattle.std.specs.Prelude.{◌≡◌, Bool, false, List, [], ◌∷◌}
use Rattle.std.specs.List.Sorted.{IsPermutation}
use Rattle.graph_verify.specs.Members.{In}

-- no node is fed by itself or by a later one
abbrev pub InTurn : {N : Type 0} → (N → N → Bool) → List N → Type 0
InTurn feeds [] = Unit {0}
InTurn {N} feeds (n ∷ ns) = ((m : N) → In m (n ∷ ns) → feeds m n ≡ false) × InTurn feeds ns

-- `steps` has each node of the graph once, after all nodes that feed it
pub record IsOrder {N : Type 0} (feeds : N → N → Bool) (nodes steps : List N) : Type 0 where
  pub same_nodes : IsPermutation nodes steps
  pub in_turn : InTurn feeds steps
