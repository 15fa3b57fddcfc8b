-- Objects under their names, of which one is added or some are no longer held, and what cells of
-- live names hold.
use Rattle.std.proofs.Common.{◌≡◌, ℕ, ◌+◌, ◌<◌, Bool, true, List, [], ◌∷◌, ◌++◌, arith, Some, IfSome, All, filter, eqb-true}
use Rattle.client_model.proofs.Common.{IsStrictlyIncreasing, length-map, Reference, Kind, ObjectValue, ExtremesObject, object_kind, NamedObject, object_held, object_at, object_named, is_kind, kind_of, kind_held, names_of, named_has}
use Rattle.std.specs.List.{AllPairs}
use Rattle.std.proofs.Math.ListN.{get_or-map as get_or-map_default}
use Rattle.std.proofs.lemmas.List.Kept.{AllPairs-filter}
use Rattle.std.proofs.lemmas.List.Quantifiers.{all_pairs_push}
use Rattle.vx_base.specs.Object.{no_extremes}
use Rattle.object_table.proofs.HeldLemmas.{above_first, later_increase}
use Rattle.graph_run.proofs.VerifiedLemmas.{pairs_of}

-- ---- names that increase

increasing_from : (objects : List NamedObject)
    → AllPairs (λ a b. a.name < b.name) objects
    → IsStrictlyIncreasing (names_of objects)
increasing_from objects h k within =
    let name_of : NamedObject → ℕ = λ o. o.name in
    let d : NamedObject = record { name = 0; live = true; object = ExtremesObject no_extremes } in
    let pair = h k (k + 1) d (omega arith) (omega (arith, within, length-map objects name_of)) in
    omega (
      arith,
      pair,
      get_or-map_default name_of objects k d,
      get_or-map_default name_of objects (k + 1) d,
    )

-- they increase still of those that pass a test, and with one more above all
pub increasing-filter : (p : NamedObject → Bool) (objects : List NamedObject)
    → IsStrictlyIncreasing (names_of objects)
    → IsStrictlyIncreasing (names_of (filter p objects))
increasing-filter p objects h =
    increasing_from (filter p objects)
    (AllPairs-filter (λ a b. a.name < b.name) p objects (pairs_of objects h))

pub increasing-push : (objects : List NamedObject) (o : NamedObject)
    → All (λ p. p.name < o.name) objects
    → IsStrictlyIncreasing (names_of objects)
    → IsStrictlyIncreasing (names_of (objects ++ o ∷ []))
increasing-push objects o below h =
    increasing_from (objects ++ o ∷ [])
    (all_pairs_push (λ a b. a.name < b.name) objects o (pairs_of objects h) below)

-- ---- live names

-- a live name is held, by the same object
pub held_if_live : (objects : List NamedObject) (name : ℕ)
    → IsStrictlyIncreasing (names_of objects)
    → IfSome (object_named objects name) (λ object. object_held objects name ≡ Some object)
held_if_live [] name h = tt
held_if_live (o ∷ objects) name h =
    grind (
      arith,
      held_if_live objects name (later_increase o objects h),
      named_has (λ n _. o.name < n) objects name (above_first o objects h),
      eqb-true,
    )

-- what holds of the object that is held under a name holds of the object whose live name it is
pub live_has : (objects : List NamedObject) (name : ℕ) (P : ObjectValue → Type 0)
    → IsStrictlyIncreasing (names_of objects)
    → IfSome (object_held objects name) P
    → IfSome (object_named objects name) P
live_has objects name P names h =
    grind (arith, held_if_live objects name names)

-- ---- what a cell holds

-- what a cell holds is of the kind that the cell is for
pub held_kind : (objects : List NamedObject) (cell : Reference)
    → IfSome (object_at objects cell) (λ object. kind_held objects cell ≡ Some (object_kind object))
held_kind objects cell = grind arith

-- what a cell of a live name is for, it holds
pub kind_if_live : (objects : List NamedObject) (k : Kind) (cell : Reference)
    → IsStrictlyIncreasing (names_of objects)
    → is_kind k (kind_of objects cell) ≡ true
    → is_kind k (kind_held objects cell) ≡ true
kind_if_live objects k cell names h = grind (arith, held_if_live objects cell.name names)
