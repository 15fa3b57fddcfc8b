-- The objects that are held: those that nodes of graphs use, and that nodes still find once others
-- are dropped.
use Rattle.std.proofs.Common.{◌≡◌, ◌⊎◌, inl, inr, ℕ, arith, Bool, true, false, IsTrue, List, [], ◌∷◌, ◌++◌, get_or, Option, Some, refl, sym, ap, subst, ◌∙◌, rules, All, is_none, ◌==◌, ◌&&◌, not, find, filter, eq-eqb, eqb-true}
use Rattle.client_model.proofs.Common.{IsStrictlyIncreasing, option_map, option_and_then, and_parts, or_cases, All-nil, All-cons, All-append, All-filter, All-map, All-tail, All-weaker, find-append, Kind, Node, Numbered, Reference, operands, ObjectValue, GraphObject, object_kind, in_slot, NamedObject, object_held, object_at, skeleton, names_it, uses, is_used, is_held, still_held, nodes_in, is_kind, holds_nothing, kind_held, holds_operand, NodesStand, names_of, All-from_map, held_by_name}
use Rattle.std.specs.List.{list_any}
use Rattle.std.proofs.lemmas.Bool.{or_right, and_from, and_right, both_ways, not_from_false, or_left, or_parts}
use Rattle.object_table.specs.Delay.{slot_kind}
use Rattle.std.proofs.lemmas.List.Elements.{filter_passes}
use Rattle.std.proofs.lemmas.List.Folds.{list_any_at, list_any_none}
use Rattle.std.proofs.lemmas.Map.Views.{any-filter_same}
use Rattle.vx_base.specs.declared.kind.Kind.TheVariants as kind
use Rattle.client_model.specs.Operands.{is_of_other_graph}
use Rattle.object_table.proofs.SkeletonLaws.{slot_kind-skeleton, in_slot-skeleton}

-- ---- lists of which some elements are kept

-- an element is found as before, if all that pass are kept
find_kept : {X : Type 0} (p q : X → Bool) (xs : List X)
    → All (λ x. p x ≡ true → q x ≡ true) xs
    → find p (filter q xs) ≡ find p xs
find_kept p q [] h = refl
find_kept p q (x ∷ xs) h =
    grind (
      arith,
      find_kept p q xs (All-tail (λ y. p y ≡ true → q y ≡ true) x xs h),
      h 0 x (omega arith),
    )

-- what holds of each element that passes holds of each that is kept
All-kept : {X : Type 0} (q : X → Bool) (P : X → Type 0) (xs : List X)
    → All (λ x. q x ≡ true → P x) xs
    → All P (filter q xs)
All-kept q P xs h k d below =
    All-filter q (λ x. q x ≡ true → P x) xs h k d below (filter_passes q xs k d below)

-- where no element passes, each fails
pub each_fails : {X : Type 0} (p : X → Bool) (xs : List X)
    → list_any p xs ≡ false
    → All (λ x. p x ≡ false) xs
each_fails p [] h = All-nil (λ x. p x ≡ false)
each_fails p (x ∷ xs) h =
    let parts = or_parts (p x) (list_any p xs) h in
    All-cons (λ y. p y ≡ false) x xs parts.0 (each_fails p xs parts.1)

-- ---- kinds of operands

-- whether a node can name an object of this kind itself; a virtual image is accepted as an image
abbrev pub is_taken : Kind → Bool
is_taken kind.Graph = false
is_taken kind.VirtualImage = false
is_taken other = true

-- the kinds that a node's function has for its operands are such
pub kinds_taken : (n : Node) → All (λ operand. is_taken operand.1 ≡ true) (operands n)
kinds_taken n = grind (arith, All-cons, All-append, All-nil)

-- ---- operands that are valid

-- the parts of a valid operand: its kind, its scope and its slot
pub record StandsFor (objects : List NamedObject) (graph : ℕ) (operand : Reference × Kind) :
    Type 0 where
  pub kind : is_kind operand.1 (kind_held objects operand.0) ≡ true
  pub scope : is_of_other_graph graph (object_at objects operand.0) ≡ false
  pub there : holds_nothing objects operand.0 ≡ false

pub stands_parts : (objects : List NamedObject) (graph : ℕ) (operand : Reference × Kind)
    → IsTrue (holds_operand objects graph operand)
    → StandsFor objects graph operand
stands_parts objects graph operand h = grind (arith, and_parts)

pub stands_from : (objects : List NamedObject) (graph : ℕ) (operand : Reference × Kind)
    → StandsFor objects graph operand
    → IsTrue (holds_operand objects graph operand)
stands_from objects graph operand h = grind (arith, and_from, not_from_false)

-- whether an operand is valid, given the object of its name
abbrev stands_on : ℕ → Reference × Kind → Option ObjectValue → Bool
stands_on graph operand found =
    is_kind operand.1 (option_and_then (slot_kind operand.0.slot) found)
    &&
    (not (is_of_other_graph graph (option_and_then (in_slot operand.0.slot) found)) && not
    (is_none (option_and_then (in_slot operand.0.slot) found)))

stands_by_skeleton : (graph : ℕ) (operand : Reference × Kind) (found : Option ObjectValue)
    → stands_on graph operand (option_map skeleton found) ≡ stands_on graph operand found
stands_by_skeleton graph operand found = grind (arith, slot_kind-skeleton, in_slot-skeleton)

-- an operand is equally valid among other objects, if the object of its name has the same skeleton
pub stands-alike : (objects others : List NamedObject) (graph : ℕ) (operand : Reference × Kind)
    → option_map skeleton (object_held objects operand.0.name)
    ≡ option_map skeleton (object_held others operand.0.name)
    → holds_operand objects graph operand ≡ holds_operand others graph operand
stands-alike objects others graph operand same =
    sym (stands_by_skeleton graph operand (object_held objects operand.0.name))
    ∙ ap (stands_on graph operand) same
    ∙ stands_by_skeleton graph operand (object_held others operand.0.name)

-- each operand of a node is valid
abbrev pub OperandsStand : List NamedObject → ℕ → Node → Type 0
OperandsStand objects graph n =
    All (λ operand. IsTrue (holds_operand objects graph operand)) (operands n)

-- if each operand that is valid among some objects is valid among others, so are the operands of
-- nodes
pub nodes_stand : (objects others : List NamedObject) (graph : ℕ) (nodes : List Node)
    →
    ((operand : Reference × Kind)
    → IsTrue (holds_operand objects graph operand)
    → IsTrue (holds_operand others graph operand))
    → All (OperandsStand objects graph) nodes → All (OperandsStand others graph) nodes
nodes_stand objects others graph nodes still h = search (rules)

-- an operand is valid among other objects that have the same object of its name
pub stands_still : (objects others : List NamedObject) (graph : ℕ) (operand : Reference × Kind)
    → object_held others operand.0.name ≡ object_held objects operand.0.name
    → IsTrue (holds_operand objects graph operand) → IsTrue (holds_operand others graph operand)
stands_still objects others graph operand same h =
    stands-alike others objects graph operand (ap (option_map skeleton) same) ∙ h

-- so it does with one object more
pub stands_more :
    (objects : List NamedObject) (new : NamedObject) (graph : ℕ) (operand : Reference × Kind)
    → IsTrue (holds_operand objects graph operand)
    → IsTrue (holds_operand (objects ++ new ∷ []) graph operand)
stands_more objects new graph operand h =
    let there = (stands_parts objects graph operand h).there in
    stands_still objects (objects ++ new ∷ []) graph operand (grind (arith, find-append, there)) h

-- ---- graphs, which no node uses

module _ (objects : List NamedObject) (name : ℕ) (object : ObjectValue)
    (found : object_held objects name ≡ Some object) (is : object_kind object ≡ kind.Graph) where
  -- no valid operand has its name
  of_other_name : (graph : ℕ) (operand : Reference × Kind)
      → IsTrue (holds_operand objects graph operand)
      → is_taken operand.1 ≡ true
      → (operand.0.name == name) ≡ false
  of_other_name graph operand h taken = grind (arith, stands_parts objects graph operand h)

  not_named : (graph : ℕ) (n : Node)
      → OperandsStand objects graph n
      → list_any (λ operand. operand.0.name == name) (operands n) ≡ false
  not_named graph n h =
      list_any_none (λ operand. operand.0.name == name) (operands n)
      (λ k d below. of_other_name graph (get_or (operands n) k d) (h k d below)
      (kinds_taken n k d below))

  not_used : (graph : ℕ) (user : ObjectValue)
      → All (OperandsStand objects graph) (nodes_in user)
      → uses user name ≡ false
  not_used graph (GraphObject g) h =
      list_any_none (names_it name) g.nodes
      (All-weaker (λ (n : Numbered). OperandsStand objects graph n.node)
      (λ n. names_it name n ≡ false) (λ n each. not_named graph n.node each)
      g.nodes (All-from_map (OperandsStand objects graph) (λ (n : Numbered). n.node) g.nodes h))
  not_used graph other h = refl

  -- where nodes find what they name, no node uses a graph
  pub graph_unused : All (NodesStand objects) objects → is_used objects name ≡ false
  graph_unused h =
      list_any_none (λ o. o.live && uses o.object name) objects
      (All-weaker (NodesStand objects) (λ o. (o.live && uses o.object name) ≡ false)
      (λ o each. and_right o.live (uses o.object name) (not_used o.name o.object each)) objects
      h)

-- ---- what nodes use

-- each operand of a node is used
abbrev OperandsUsed : List NamedObject → Node → Type 0
OperandsUsed objects n = All (λ operand. is_used objects operand.0.name ≡ true) (operands n)

-- each operand of a graph's node is named by it
uses_its_own : (object : ObjectValue)
    → All (λ n. All (λ operand. uses object operand.0.name ≡ true) (operands n)) (nodes_in object)
uses_its_own (GraphObject g) =
    grind (
      arith,
      All-map
          (λ n. All (λ operand. list_any (names_it operand.0.name) g.nodes ≡ true) (operands n))
          (λ (n : Numbered). n.node) g.nodes
          (λ k d below i e within. let n : Node = (get_or g.nodes k d).node in
          let operand = get_or (operands n) i e in
          list_any_at (names_it operand.0.name) g.nodes k d below
          (list_any_at (λ other. other.0.name == operand.0.name) (operands n) i e within
          (eq-eqb operand.0.name operand.0.name refl))),
    )
uses_its_own other = All-nil (λ n. All (λ operand. uses other operand.0.name ≡ true) (operands n))

-- what a node of an unreleased graph names is used
used_by_live : (objects : List NamedObject)
    → All (λ o. o.live ≡ true → All (OperandsUsed objects) (nodes_in o.object)) objects
used_by_live objects k d below live =
    let o : NamedObject = get_or objects k d in
    All-weaker (λ n. All (λ operand. uses o.object operand.0.name ≡ true) (operands n))
    (OperandsUsed objects)
    (λ n each. All-weaker (λ operand. uses o.object operand.0.name ≡ true)
    (λ operand. is_used objects operand.0.name ≡ true)
    (λ operand used. list_any_at (λ p. p.live && uses p.object operand.0.name) objects k d below
    (and_from o.live (uses o.object operand.0.name) live used))
    (operands n) each)
    (nodes_in o.object) (uses_its_own o.object)

-- ---- the objects that are still held

module _ (objects : List NamedObject) where
  -- what is used stays used, and what is held stays held
  used_still : (name : ℕ) → is_used (still_held objects) name ≡ is_used objects name
  used_still name =
      any-filter_same (λ o. o.live && uses o.object name) (is_held objects) true
      (λ o uses_it. or_left o.live (is_used objects o.name)
      (and_parts o.live (uses o.object name) uses_it).0)
      objects

  pub held_still : All (λ o. IsTrue (is_held (still_held objects) o)) (still_held objects)
  held_still = grind (arith, All-weaker, used_still, filter_passes)

  -- what is used is found as before
  found_still : (name : ℕ)
      → is_used objects name ≡ true
      → object_held (still_held objects) name ≡ object_held objects name
  found_still name used = grind (arith, find_kept, or_right, eqb-true)

  -- a graph has nodes, and no other object does
  graph_or_none : (object : ObjectValue)
      → (object_kind object ≡ kind.Graph) ⊎ (nodes_in object ≡ [])
  graph_or_none (GraphObject graph) = inl refl
  graph_or_none other = inr refl

  module _ (names : IsStrictlyIncreasing (names_of objects))
      (nodes : All (NodesStand objects) objects) where
    -- nodes of what is held still find what they name
    node_finds_still : (o : NamedObject)
        → object_held objects o.name ≡ Some o.object
        → (o.live ≡ true → All (OperandsUsed objects) (nodes_in o.object))
        → NodesStand objects o
        → is_held objects o ≡ true → NodesStand (still_held objects) o
    node_finds_still o found used stand kept =
        by_mark (or_cases o.live (is_used objects o.name) kept) (graph_or_none o.object)
      where
        by_mark : (o.live ≡ true) ⊎ (is_used objects o.name ≡ true)
            → (object_kind o.object ≡ kind.Graph) ⊎ (nodes_in o.object ≡ [])
            → NodesStand (still_held objects) o
        by_mark (inl live) any = search (rules, stands_still, found_still)
        by_mark (inr in_use) (inl graph) =
            absurd
            (both_ways (is_used objects o.name)
            (graph_unused objects o.name o.object found graph nodes) in_use)
        by_mark (inr in_use) (inr none) =
            subst (All (OperandsStand (still_held objects) o.name)) (sym none)
            (All-nil (OperandsStand (still_held objects) o.name))

    pub nodes_still : All (NodesStand (still_held objects)) (still_held objects)
    nodes_still =
        grind (
          arith,
          All-kept (is_held objects) (NodesStand (still_held objects)) objects
              (λ k d below. node_finds_still (get_or objects k d)
              (held_by_name objects names k d below) (used_by_live objects k d below)
              (nodes k d below)),
        )
