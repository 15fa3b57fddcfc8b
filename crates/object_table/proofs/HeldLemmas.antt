-- Objects under their names: the one of a name, and the objects when one is written.
use Rattle.std.proofs.Common.{◌≡◌, ℕ, ◌+◌, ◌<◌, List, [], ◌∷◌, map, zero, suc, refl, subst, arith, Some, IfSome, rules, eqb-true, All, eq-eqb}
use Rattle.object_table.proofs.Common.{IsStrictlyIncreasing, AllPairs, option_map, eqb-false, length-map, All-nil, All-cons, All-head, All-tail, All-weaker, AllPairs-from_increasing, Reference, ObjectValue, IsObject, with_slot, NamedObject, object_held, with_object, IfSome_then, object_at}
use Rattle.std.proofs.Math.ListN.{get_or-map as get_or-map_default}
use Rattle.object_table.proofs.SlotLemmas.{IsObject-in_slot}

-- ---- names that increase

abbrev pub names_of : List NamedObject → List ℕ
names_of objects = map (λ o. o.name) objects

-- numbers that increase, each below all later ones
pub increasing_from_pairs : (names : List ℕ)
    → AllPairs (λ x y. x < y) names
    → IsStrictlyIncreasing names
increasing_from_pairs names pairs k h = pairs k (k + 1) 0 (omega arith) h

-- the first is below the others
pub increasing_head : (name : ℕ) (names : List ℕ)
    → IsStrictlyIncreasing (name ∷ names)
    → All (λ other. name < other) names
increasing_head name names h k d below =
    AllPairs-from_increasing (name ∷ names) h zero (suc k) d (omega arith) (omega arith)

-- the others increase
pub increasing_tail : (name : ℕ) (names : List ℕ)
    → IsStrictlyIncreasing (name ∷ names)
    → IsStrictlyIncreasing names
increasing_tail name names h =
    increasing_from_pairs names
    (λ i j d a b. AllPairs-from_increasing (name ∷ names) h (suc i) (suc j) d (omega arith)
    (omega arith))

-- what holds of the image of each element holds of each element through it
pub All-from_map : {X Y : Type 0} (P : Y → Type 0) (f : X → Y) (xs : List X)
    → All P (map f xs)
    → All (λ x. P (f x)) xs
All-from_map P f xs h k d below =
    subst P (get_or-map_default f xs k d) (h k (f d) (omega (arith, below, length-map xs f)))

-- ---- the object of a name

-- the later objects have higher names than the first
pub above_first : (o : NamedObject) (objects : List NamedObject)
    → IsStrictlyIncreasing (names_of (o ∷ objects))
    → All (λ p. o.name < p.name) objects
above_first o objects h =
    All-from_map (λ other. o.name < other) (λ (p : NamedObject). p.name) objects
    (increasing_head o.name (names_of objects) h)

pub later_increase : (o : NamedObject) (objects : List NamedObject)
    → IsStrictlyIncreasing (names_of (o ∷ objects))
    → IsStrictlyIncreasing (names_of objects)
later_increase o objects h = increasing_tail o.name (names_of objects) h

-- what holds of each object under its name holds of the one of this name
pub named_has : (P : ℕ → ObjectValue → Type 0) (objects : List NamedObject) (name : ℕ)
    → All (λ o. P o.name o.object) objects
    → IfSome (object_held objects name) (P name)
named_has P [] name h = tt
named_has P (o ∷ objects) name h =
    grind (
      arith,
      named_has P objects name,
      All-head (λ p. P p.name p.object) o objects h,
      All-tail (λ p. P p.name p.object) o objects h,
      eqb-true o.name name,
    )

-- what holds of each object holds of the one of this name
pub object_held_has : (P : ObjectValue → Type 0) (objects : List NamedObject) (name : ℕ)
    → All (λ o. P o.object) objects
    → IfSome (object_held objects name) P
object_held_has P objects name h = named_has (λ _. P) objects name h

-- each object of this name is this one
abbrev pub HasObject : ℕ → ObjectValue → NamedObject → Type 0
HasObject name is o = o.name ≡ name → o.object ≡ is

-- where names increase, the object of a name is the only one
pub held_alone : (objects : List NamedObject) (name : ℕ)
    → IsStrictlyIncreasing (names_of objects)
    → IfSome (object_held objects name) (λ object. All (HasObject name object) objects)
held_alone [] name h = tt
held_alone (o ∷ objects) name h =
    search (
      rules,
      held_alone objects name (later_increase o objects h),
      later_increase,
      eqb-true,
      All-cons,
      All-weaker,
      above_first,
      IfSome_then,
      eqb-false,
    )

-- and each object is that of its name
pub held_by_name : (objects : List NamedObject)
    → IsStrictlyIncreasing (names_of objects)
    → All (λ o. object_held objects o.name ≡ Some o.object) objects
held_by_name [] h = All-nil (λ o. object_held [] o.name ≡ Some o.object)
held_by_name (o ∷ objects) h =
    grind (
      arith,
      held_by_name objects (later_increase o objects h),
      above_first o objects h,
      later_increase o objects h,
      eq-eqb o.name o.name refl,
    )

-- of objects that are changed under their names, the one of a name is so changed
pub object_held-map :
    (f : NamedObject → NamedObject) (change : ObjectValue → ObjectValue)
    (objects : List NamedObject) (name : ℕ)
    → ((o : NamedObject) → (f o).name ≡ o.name)
    → ((o : NamedObject) → o.name ≡ name → (f o).object ≡ change o.object)
    → object_held (map f objects) name ≡ option_map change (object_held objects name)
object_held-map f change [] name same changed = refl
object_held-map f change (o ∷ objects) name same changed =
    grind (arith, object_held-map f change objects name same changed)

-- ---- what a cell holds

-- what a cell holds is an object
pub held_is : (objects : List NamedObject) (cell : Reference)
    → All (λ o. IsObject o.object) objects
    → IfSome (object_at objects cell) IsObject
held_is objects cell h =
    grind (arith, object_held_has IsObject objects cell.name h, object_held_has, IsObject-in_slot)

-- ---- one object is written

-- what holds of each object holds after a write that keeps it
pub All-with_object :
    (P Q : NamedObject → Type 0) (objects : List NamedObject) (cell : Reference)
    (object : ObjectValue)
    →
    ((o : NamedObject)
    → Q o
    → P o
    → o.name ≡ cell.name
    → P (record o { object = with_slot cell.slot object o.object }))
    → All Q objects
    → All P objects
    → All P (with_object objects cell object)
All-with_object P Q [] cell object keeps also h = All-nil P
All-with_object P Q (o ∷ objects) cell object keeps also h =
    grind (
      arith,
      All-with_object P Q objects cell object keeps (All-tail Q o objects also)
          (All-tail P o objects h),
      All-head P o objects h,
      All-head Q o objects also,
      All-tail Q o objects also,
      All-tail P o objects h,
    )

-- what is the same of each object that is written is the same of all
pub map-with_object :
    {X : Type 0} (f : NamedObject → X) (objects : List NamedObject) (cell : Reference)
    (object : ObjectValue)
    → All
    (λ o. o.name ≡ cell.name → f (record o { object = with_slot cell.slot object o.object }) ≡ f o)
    objects
    → map f (with_object objects cell object) ≡ map f objects
map-with_object f [] cell object same = refl
map-with_object f (o ∷ objects) cell object same =
    let Same : NamedObject → Type 0 =
    λ p. p.name ≡ cell.name → f (record p { object = with_slot cell.slot object p.object }) ≡ f p in
    grind (
      arith,
      map-with_object f objects cell object (All-tail Same o objects same),
      All-head Same o objects same,
      eqb-true o.name cell.name,
    )
