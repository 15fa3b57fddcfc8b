-- Cycles of nodes, which a graph may not have. OpenVX 1.3, "Graphs".
use Rattle.std.specs.Prelude.{◌≡◌, ℕ, zero, suc, Bool, true, false, not, List, [], ◌∷◌, length}
use Rattle.std.specs.List.{filter, list_any}
use Rattle.graph_verify.specs.Members.{AllIn}

-- `feeds a b`: node `a` writes an object that node `b` reads

-- a path from `a` through all nodes of the list, in order, to `b`; each node feeds the next
abbrev pub Chain : {N : Type 0} → (N → N → Bool) → N → List N → N → Type 0
Chain feeds a [] b = feeds a b ≡ true
Chain feeds a (c ∷ cs) b = (feeds a c ≡ true) × Chain feeds c cs b

-- a non-empty list of nodes in which each feeds the next, and the last feeds the first
abbrev pub IsCycle : {N : Type 0} → (N → N → Bool) → List N → Type 0
IsCycle feeds [] = ⊥
IsCycle feeds (a ∷ as') = Chain feeds a as' a

-- the graph has a cycle
abbrev pub HasCycle : {N : Type 0} → (N → N → Bool) → List N → Type 0
HasCycle {N} feeds g = (ns : List N) × IsCycle feeds ns × AllIn ns g

-- the nodes of a list that are fed by a node of the same list
abbrev pub fed_nodes : {N : Type 0} → (N → N → Bool) → List N → List N
fed_nodes feeds g = filter (λ n. list_any (λ m. feeds m n) g) g

-- the nodes left after k rounds, each of which removes the nodes that no remaining node feeds
abbrev pub left_after : {N : Type 0} → (N → N → Bool) → ℕ → List N → List N
left_after feeds zero g = g
left_after feeds (suc k) g = left_after feeds k (fed_nodes feeds g)

-- whether a list is empty
abbrev pub is_empty : {N : Type 0} → List N → Bool
is_empty [] = true
is_empty (x ∷ xs) = false

-- the test for a cycle: nodes are left after as many rounds as there are nodes
abbrev pub has_cycle : {N : Type 0} → (N → N → Bool) → List N → Bool
has_cycle feeds g = not (is_empty (left_after feeds (length g) g))
