-- Values of a graph's objects, computed in rounds in which all nodes act simultaneously. Nodes,
-- references and values may be of any type.
use Rattle.std.specs.Prelude.{◌≡◌, ℕ, zero, suc, Bool, true, false, if◌then◌else◌, List, [], ◌∷◌}
use Rattle.graph_verify.specs.Members.{In}

-- one round: each object that a node of the list writes gets that node's value, computed from the
-- values before the round; other objects keep their values
abbrev pub round : {N C V : Type 0}
    → (N → C → Bool)
    → (N → (C → V) → C → V)
    → List N
    → (C → V)
    → C
    → V
round writes value [] held c = held c
round writes value (n ∷ ns) held c =
    if writes n c then value n held c else round writes value ns held c

-- the values after k rounds
abbrev pub rounds : {N C V : Type 0}
    → (N → C → Bool)
    → (N → (C → V) → C → V)
    → List N
    → ℕ
    → (C → V)
    → C
    → V
rounds writes value nodes zero held = held
rounds writes value nodes (suc k) held = round writes value nodes (rounds writes value nodes k held)

-- the values after one node has run
abbrev pub step : {N C V : Type 0} → (N → C → Bool) → (N → (C → V) → C → V) → N → (C → V) → C → V
step writes value n held c = if writes n c then value n held c else held c

-- the values after the nodes of the list have run, one after another
abbrev pub one_pass : {N C V : Type 0}
    → (N → C → Bool)
    → (N → (C → V) → C → V)
    → List N
    → (C → V)
    → C
    → V
one_pass writes value [] held = held
one_pass writes value (n ∷ ns) held = one_pass writes value ns (step writes value n held)

-- no object is written by two different nodes of the list
abbrev pub OneWriter : {N C : Type 0} → (N → C → Bool) → List N → Type 0
OneWriter {N} {C} writes nodes =
    (m n : N) (c : C) → In m nodes → In n nodes → writes m c ≡ true → writes n c ≡ true → m ≡ n

-- `after` is a solution: each written object has the value that its writer computes from `after`
-- itself, and every other object is as in `held`
pub record IsSolution {N C V : Type 0} (writes : N → C → Bool) (value : N → (C → V) → C → V)
    (nodes : List N) (held after : C → V) : Type 0 where
  pub written : (n : N) (c : C) → In n nodes → writes n c ≡ true → after c ≡ value n after c
  pub others : (c : C) → ((n : N) → In n nodes → writes n c ≡ false) → after c ≡ held c

-- a node's values depend only on the objects that it reads
abbrev pub ReadsAlone : {N C V : Type 0} → (N → C → Bool) → (N → (C → V) → C → V) → Type 0
ReadsAlone {N} {C} {V} reads value =
    (n : N) (a b : C → V)
    → ((c : C) → reads n c ≡ true → a c ≡ b c)
    → (c : C)
    → value n a c ≡ value n b c
