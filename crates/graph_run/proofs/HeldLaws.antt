-- Objects after some of them are written.
use Rattle.std.proofs.Common.{◌≡◌, ℕ, Bool, true, false, ◌&&◌, if◌then◌else◌, eqb, List, [], ◌∷◌, ◌++◌, map, refl, ap, ◌∙◌, Option, Some, None, arith, rules, option_map, option_and_then, eqb-true}
use Rattle.graph_run.proofs.Common.{cases_Bool, Reference, same_slot, same_reference, ObjectValue, object_kind, in_slot, with_slot, NamedObject, object_held, object_at, with_object, with_written, with_slot_there, with_slot_elsewhere, In, form_of, form_held, label_of, same_cell-true, option_or}
use Rattle.graph_run.proofs.ObjectLaws.{is_delay, shown}

-- the value of the object that a reference names
abbrev pub seen : List NamedObject → Reference → Option ObjectValue
seen objects cell = option_map shown (object_at objects cell)

-- ---- options

pub map-or : {X Y : Type 0} (f : X → Y) (o p : Option X)
    → option_map f (option_or o p) ≡ option_or (option_map f o) (option_map f p)
map-or f y p = grind arith

pub or_assoc : {X : Type 0} (o p q : Option X)
    → option_or (option_or o p) q ≡ option_or o (option_or p q)
or_assoc x p q = grind arith

pub or_none : {X : Type 0} (o p : Option X) → option_or o p ≡ None → (o ≡ None) × (p ≡ None)
or_none o p h = grind arith

pub form-seen : (o : Option ObjectValue)
    → option_map form_of (option_map shown o) ≡ option_map form_of o
form-seen z0 = grind arith

pub kind-form_seen : (o : Option ObjectValue)
    → option_map object_kind (option_map form_of o) ≡ option_map object_kind o
kind-form_seen x = grind arith

-- ---- an object that is written

-- it has the form of the old object, and isn't a whole delay
pub record IsWrite (objects : List NamedObject) (cell : Reference) (object : ObjectValue) : Type
    0 where
  pub form : form_held objects cell ≡ Some (form_of object)
  pub whole : is_delay object ≡ false

pub object_held-with_object :
    (objects : List NamedObject) (cell : Reference) (new : ObjectValue) (name : ℕ)
    → object_held (with_object objects cell new) name
    ≡ option_map (λ x. if eqb name cell.name then with_slot cell.slot new x else x)
    (object_held objects name)
object_held-with_object [] cell new name = refl
object_held-with_object (o ∷ objects) cell new name =
    grind (
      arith,
      object_held-with_object objects cell new name,
      cases_Bool (eqb o.name cell.name),
      cases_Bool (eqb o.name name),
    )

seen_written : (k j : Option ℕ) (same : Bool) (new : ObjectValue) (o : Option ObjectValue)
    → (same ≡ true → option_map form_of (option_and_then (in_slot j) o) ≡ Some (form_of new))
    → is_delay new ≡ false
    → option_map shown
    (option_and_then (in_slot k) (option_map (λ x. if same then with_slot j new x else x) o))
    ≡
    (if same && same_slot k j then Some (shown new) else option_map shown
    (option_and_then (in_slot k) o))
seen_written k j z2 new z4 f d = grind (arith, with_slot_there, with_slot_elsewhere)

-- the written object has the new value, and the values of others stay
pub seen-with_object : (objects : List NamedObject) (cell : Reference) (new : ObjectValue)
    → IsWrite objects cell new
    → (c : Reference)
    → seen (with_object objects cell new) c
    ≡ (if same_reference c cell then Some (shown new) else seen objects c)
seen-with_object objects cell new is c =
    grind (
      arith,
      object_held-with_object objects cell new c.name,
      seen_written c.slot cell.slot (eqb c.name cell.name) new (object_held objects c.name)
          (λ e. ap
          (λ z. option_map form_of (option_and_then (in_slot cell.slot) (object_held objects z)))
          (eqb-true c.name cell.name e) ∙ is.form)
          is.whole,
      eqb-true c.name cell.name,
    )

-- forms stay
pub form-with_object : (objects : List NamedObject) (cell : Reference) (new : ObjectValue)
    → IsWrite objects cell new
    → (c : Reference)
    → form_held (with_object objects cell new) c ≡ form_held objects c
form-with_object objects cell new is c =
    search (rules, form-seen, seen-with_object, cases_Bool, same_cell-true)

-- names and labels stay
pub labels-with_object : (objects : List NamedObject) (cell : Reference) (new : ObjectValue)
    → map label_of (with_object objects cell new) ≡ map label_of objects
labels-with_object [] cell new = refl
labels-with_object (o ∷ objects) cell new =
    grind (arith, labels-with_object objects cell new, cases_Bool (eqb o.name cell.name))

-- ---- objects that are written one after the other

abbrev pub AreWrites : List NamedObject → List (Reference × ObjectValue) → Type 0
AreWrites objects ws = (w : Reference × ObjectValue) → In w ws → IsWrite objects w.0 w.1

-- the last that is written to a cell
abbrev pub last_to : Reference → List (Reference × ObjectValue) → Option ObjectValue
last_to c [] = None
last_to c (w ∷ ws) = option_or (last_to c ws) (if same_reference c w.0 then Some w.1 else None)

pub last_to-append : (c : Reference) (xs ys : List (Reference × ObjectValue))
    → last_to c (xs ++ ys) ≡ option_or (last_to c ys) (last_to c xs)
last_to-append c [] ys = grind arith
last_to-append c (w ∷ xs) ys =
    grind (
      arith,
      last_to-append c xs ys,
      or_assoc (last_to c ys) (last_to c xs) (if same_reference c w.0 then Some w.1 else None),
    )

AreWrites-after :
    (objects : List NamedObject) (w : Reference × ObjectValue) (ws : List (Reference × ObjectValue))
    → AreWrites objects (w ∷ ws)
    → AreWrites (with_object objects w.0 w.1) ws
AreWrites-after objects w ws are = grind (arith, form-with_object)

-- each object has the last value that was written to it, or its old value if there is none
pub seen-with_written : (ws : List (Reference × ObjectValue)) (objects : List NamedObject)
    → AreWrites objects ws
    → (c : Reference)
    → seen (with_written objects ws) c
    ≡ option_or (option_map shown (last_to c ws)) (seen objects c)
seen-with_written [] objects are c = refl
seen-with_written (w ∷ ws) objects are c =
    grind (
      arith,
      seen-with_written ws (with_object objects w.0 w.1) (AreWrites-after objects w ws are) c,
      AreWrites-after,
      seen-with_object,
    )

pub form-with_written : (ws : List (Reference × ObjectValue)) (objects : List NamedObject)
    → AreWrites objects ws
    → (c : Reference)
    → form_held (with_written objects ws) c ≡ form_held objects c
form-with_written [] objects are c = refl
form-with_written (w ∷ ws) objects are c =
    grind (
      arith,
      form-with_written ws (with_object objects w.0 w.1) (AreWrites-after objects w ws are) c,
      AreWrites-after,
      form-with_object,
    )

pub labels-with_written : (ws : List (Reference × ObjectValue)) (objects : List NamedObject)
    → map label_of (with_written objects ws) ≡ map label_of objects
labels-with_written [] objects = refl
labels-with_written (w ∷ ws) objects =
    labels-with_written ws (with_object objects w.0 w.1) ∙ labels-with_object objects w.0 w.1
