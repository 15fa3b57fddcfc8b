-- What lasts of objects as others are written in their places.
use Rattle.std.proofs.Common.{◌≡◌, ℕ, List, [], ◌∷◌, Option, Some, None, map, drop, refl, sym, ap, subst, ◌∙◌, arith, option_map, option_and_then}
use Rattle.graph_run.proofs.Common.{IsStrictlyIncreasing, Node, Reference, Description, ImageValue, image_over, description_of, ObjectValue, ImageObject, empty_rectangle, in_slot, with_slot, NamedObject, object_held, object_at, skeleton, names_of, map-determined, lasting_part, lasting_named, Lasts}
use Rattle.object_table.specs.Uses.{nodes_in}
use Rattle.object_table.proofs.SkeletonLaws.{option_map-determined, in_slot-skeleton, skeleton-with_slot}

-- ---- of an object

-- its skeleton
pub skeletons-last : (one other : Option ObjectValue)
    → option_map lasting_part one ≡ option_map lasting_part other
    → option_map skeleton one ≡ option_map skeleton other
skeletons-last = option_map-determined lasting_part skeleton (λ left. left.0) (λ _. refl)

-- and its nodes
pub nodes-last : (one other : Option ObjectValue)
    → option_map lasting_part one ≡ option_map lasting_part other
    → option_map nodes_in one ≡ option_map nodes_in other
nodes-last = option_map-determined lasting_part nodes_in (λ left. left.1) (λ _. refl)

-- so as much lasts of what stands in a slot, where only images do
abbrev in_left : Option ℕ → ObjectValue × List Node → Option (ObjectValue × List Node)
in_left None left = Some left
in_left (Some k) left = option_map (λ object. (object, [])) (in_slot (Some k) left.0)

in_slots-last : (slot : Option ℕ) (one other : Option ObjectValue)
    → option_map lasting_part one ≡ option_map lasting_part other
    → option_map lasting_part (option_and_then (in_slot slot) one)
    ≡ option_map lasting_part (option_and_then (in_slot slot) other)
in_slots-last (Some k) (Some x) (Some y) same =
    grind (arith, in_slot-skeleton (Some k) x, in_slot-skeleton (Some k) y)
in_slots-last slot one other same = grind arith

-- as much lasts of images of one description
pub images-last : (a b : ImageValue)
    → description_of a ≡ description_of b
    → lasting_part (ImageObject a) ≡ lasting_part (ImageObject b)
images-last a b e =
    ap
    (λ (d : Description). let left : ObjectValue
    × List Node = (ImageObject (image_over d empty_rectangle []), []) in left)
    e

-- an object in the place of one of which as much lasts
pub lasting-with_slot : (slot : Option ℕ) (new object : ObjectValue)
    → option_map lasting_part (in_slot slot object) ≡ Some (lasting_part new)
    → lasting_part (with_slot slot new object) ≡ lasting_part object
lasting-with_slot slot new object same = grind (arith, skeleton-with_slot)

-- ---- of what is held

abbrev pub Lasting : Type 0
Lasting = NamedObject × List Node

-- names last
pub names-last : (old new : List NamedObject)
    → map lasting_named new ≡ map lasting_named old
    → names_of new ≡ names_of old
names-last old new same =
    map-determined lasting_named (λ o. o.name) (λ left. left.0.name) (λ _. refl) new old same

-- as much lasts of what is held under each name
pub held-lasts : (old new : List NamedObject) (name : ℕ)
    → map lasting_named new ≡ map lasting_named old
    → option_map lasting_part (object_held new name)
    ≡ option_map lasting_part (object_held old name)
held-lasts [] [] name same = refl
held-lasts (o ∷ old) (p ∷ new) name same = grind (arith, held-lasts old new name (ap (drop 1) same))
held-lasts old new name same = absurd (cc)

-- and in each cell
pub cell-lasts : (old new : List NamedObject) (cell : Reference)
    → map lasting_named new ≡ map lasting_named old
    → option_map lasting_part (object_at new cell) ≡ option_map lasting_part (object_at old cell)
cell-lasts old new cell same =
    in_slots-last cell.slot (object_held new cell.name) (object_held old cell.name)
    (held-lasts old new cell.name same)

-- they last through two changes
pub Lasts-trans : (old new last : List NamedObject)
    → Lasts old new
    → Lasts new last
    → Lasts old last
Lasts-trans old new last one other = record {
  objects = other.objects;
  lasting = other.lasting ∙ one.lasting;
}

-- and the names with them
pub Lasts-names : (old new : List NamedObject)
    → Lasts old new
    → IsStrictlyIncreasing (names_of old)
    → IsStrictlyIncreasing (names_of new)
Lasts-names old new h names = subst IsStrictlyIncreasing (sym (names-last old new h.lasting)) names
