-- Lists of objects are equal if they have the same names and labels and the same value for each
-- reference.
use Rattle.std.proofs.Common.{◌≡◌, ℕ, suc, ◌<◌, Bool, true, false, eqb, List, [], ◌∷◌, length, map, get_or, refl, sym, ap, subst, ◌∙◌, Option, Some, None, arith, slice_get, option_map, option_and_then, eqb-true, eq-eqb, ne_eqb}
use Rattle.graph_run.proofs.Common.{AllPairs, cases_Bool, Reference, ImageValue, ObjectValue, ImageObject, DelayObject, in_slot, NamedObject, object_held, label_of}
use Rattle.graph_run.proofs.ObjectLaws.{shown}
use Rattle.graph_run.proofs.HeldLaws.{seen}

-- ---- objects

-- lists of the same element at each place
pub same_at_each : {X : Type 0} (xs ys : List X)
    → ((k : ℕ) → slice_get xs k ≡ slice_get ys k)
    → xs ≡ ys
same_at_each [] [] h = refl
same_at_each {X} (x ∷ xs) (y ∷ ys) h = grind (arith, h 0, same_at_each xs ys (λ k. h (suc k)))
same_at_each xs ys h = absurd (grind (arith, h 0))

image_seen : (o p : Option ImageValue) → option_map ImageObject o ≡ option_map ImageObject p → o ≡ p
image_seen o p h = grind arith

unshown : (o p : Option ImageValue)
    → option_map shown (option_map ImageObject o) ≡ option_map shown (option_map ImageObject p)
    → option_map ImageObject o ≡ option_map ImageObject p
unshown o p h = grind arith

-- an object is determined by its own value and those of its slots
from_shown : (x y : ObjectValue)
    → shown x ≡ shown y
    → ((k : ℕ) → option_map shown (in_slot (Some k) x) ≡ option_map shown (in_slot (Some k) y))
    → x ≡ y
from_shown (DelayObject xs) (DelayObject ys) h each =
    ap DelayObject
    (same_at_each xs ys
    (λ k. image_seen (slice_get xs k) (slice_get ys k)
    (unshown (slice_get xs k) (slice_get ys k) (each k))))
from_shown x y h each = grind arith

held_same : (o p : Option ObjectValue)
    →
    ((slot : Option ℕ) → option_map shown (option_and_then (in_slot slot) o)
    ≡ option_map shown (option_and_then (in_slot slot) p))
    → o ≡ p
held_same (Some x) (Some y) h =
    grind (arith, h None, from_shown x y (cc (h None)) (λ k. h (Some k)))
held_same x y h = grind (arith, h None)

-- ---- names in their order

abbrev pub Above : ℕ → List (ℕ × Bool) → Type 0
Above name [] = Unit {0}
Above name (m ∷ labels) = (name < m.0) × Above name labels

abbrev pub Rising : List (ℕ × Bool) → Type 0
Rising [] = Unit {0}
Rising (m ∷ labels) = Above m.0 labels × Rising labels

above_all : (objects : List NamedObject) (name : ℕ)
    → ((k : ℕ) (d : NamedObject) → k < length objects → name < (get_or objects k d).name)
    → Above name (map label_of objects)
above_all [] name h = tt
above_all (o ∷ objects) name h =
    (h 0 o (omega arith), above_all objects name (λ k d l. h (suc k) d (omega arith)))

pub rising : (objects : List NamedObject)
    → AllPairs (λ a b. a.name < b.name) objects
    → Rising (map label_of objects)
rising [] h = tt
rising (o ∷ objects) h = (
  above_all objects o.name (λ k d l. h 0 (suc k) d (omega arith) (omega arith)),
  rising objects (λ i j d less within. h (suc i) (suc j) d (omega arith) (omega arith)),
)

absent : (objects : List NamedObject) (name : ℕ)
    → Above name (map label_of objects)
    → object_held objects name ≡ None
absent [] name h = refl
absent (o ∷ objects) name h =
    let e : eqb o.name name ≡ false =
    ne_eqb o.name name (λ same. absurd (omega (arith, h.0, same))) in
    rw e (absent objects name h.1)

under_own : (o : NamedObject) (objects : List NamedObject)
    → object_held (o ∷ objects) o.name ≡ Some o.object
under_own o objects = let e : eqb o.name o.name ≡ true = eq-eqb o.name o.name refl in rw e refl

-- the first name doesn't occur again
absent_both : (old new : List NamedObject) (name : ℕ)
    → Above name (map label_of old)
    → map label_of old ≡ map label_of new
    → object_held old name ≡ object_held new name
absent_both old new name above labels =
    absent old name above ∙ sym (absent new name (subst (λ z. Above name z) labels above))

-- two lists of the same names and labels, by what is held under each name
pub by_names : (old new : List NamedObject)
    → Rising (map label_of old)
    → map label_of old ≡ map label_of new
    → ((name : ℕ) → object_held old name ≡ object_held new name)
    → old ≡ new
by_names [] [] up labels h = refl
by_names (o ∷ old) (p ∷ new) up labels h =
    grind (
      arith,
      cases_Bool,
      eqb-true o.name,
      absent_both old new o.name up.0,
      by_names old new up.1,
      under_own o old,
      under_own p new,
    )
by_names old new up labels h = absurd (cc labels)

-- objects with increasing names are determined by their labels and by the value for each reference
pub same_objects : (old new : List NamedObject)
    → Rising (map label_of old)
    → map label_of old ≡ map label_of new
    → ((c : Reference) → seen old c ≡ seen new c)
    → old ≡ new
same_objects old new up labels h =
    by_names old new up labels
    (λ name. held_same (object_held old name) (object_held new name)
    (λ slot. h (record { name = name; slot = slot })))
