-- What cells hold where one of them is written.
use Rattle.std.proofs.Common.{◌≡◌, ℕ, IsTrue, List, [], ◌∷◌, Option, Some, None, refl, sym, ap, subst, ◌∙◌, arith, All, is_some, unwrap_or, IfSome, option_map, eq-eqb, eqb-true}
use Rattle.graph_run.proofs.Common.{IsStrictlyIncreasing, All-head, All-tail, All-weaker, U8, Kind, Reference, ImageValue, new_image, ObjectValue, ImageObject, IsObject, object_kind, in_slot, with_slot, NamedObject, object_held, object_at, with_object, with_written, cell_object, image_held, HoldsImage, names_of, HasObject, map-with_object, with_slot_there, with_slot_elsewhere, Missing, operand_of, operand_held, lasting_part, lasting_named, Lasts, Holds, AreApart, HoldsKind}
use Rattle.object_table.proofs.HeldLemmas.{held_alone, All-with_object}
use Rattle.object_table.proofs.SkeletonLaws.{IsObject-with_slot}
use Rattle.object_table.proofs.SlotLemmas.{with_slot_twice}
use Rattle.graph_run.proofs.HeldLaws.{object_held-with_object}
use Rattle.graph_run.proofs.LastingLemmas.{skeletons-last, lasting-with_slot, cell-lasts, Lasts-trans, Lasts-names}

module _ (objects : List NamedObject) (q : Reference) where
  -- what stands apart stays
  pub elsewhere : (p : Reference) (new : ObjectValue)
      → AreApart p q
      → object_at (with_object objects q new) p ≡ object_at objects p
  elsewhere p new apart = grind (arith, object_held-with_object, with_slot_elsewhere, eqb-true)

  pub object_elsewhere : (p : Reference) (new : ObjectValue)
      → AreApart p q
      → cell_object (with_object objects q new) p ≡ cell_object objects p
  object_elsewhere p new apart =
      ap (λ o. unwrap_or o (ImageObject (new_image 0 0 U8))) (elsewhere p new apart)

  pub object_if_elsewhere : (p : Option Reference) (new : ObjectValue)
      → IfSome p (λ c. AreApart c q)
      → option_map (cell_object (with_object objects q new)) p ≡ option_map (cell_object objects) p
  object_if_elsewhere z0 new apart = grind (arith, object_elsewhere)

  pub holds_elsewhere : (p : Reference) (new : ObjectValue)
      → AreApart p q
      → Holds objects p
      → Holds (with_object objects q new) p
  holds_elsewhere p new apart h =
      subst (λ (o : Option ObjectValue). IsTrue (is_some o)) (sym (elsewhere p new apart)) h

  pub hold_elsewhere : (p : Option Reference) (new : ObjectValue)
      → IfSome p (λ c. AreApart c q)
      → IfSome p (Holds objects)
      → IfSome p (Holds (with_object objects q new))
  hold_elsewhere z0 new apart h = grind (arith, holds_elsewhere)

  pub image_elsewhere : (p : Reference) (new : ObjectValue)
      → AreApart p q
      → HoldsImage objects p
      → HoldsImage (with_object objects q new) p
  image_elsewhere p new apart h = ap (option_map object_kind) (elsewhere p new apart) ∙ h

-- an image that is written over an image stands there
module _ (objects : List NamedObject) (q : Reference) (h : HoldsImage objects q)
    (image : ImageValue) where
  pub held_after :
      object_at (with_object objects q (ImageObject image)) q ≡ Some (ImageObject image)
  held_after = grind (arith, object_held-with_object, eq-eqb, with_slot_there)

  pub object_after : cell_object (with_object objects q (ImageObject image)) q ≡ ImageObject image
  object_after = ap (λ o. unwrap_or o (ImageObject (new_image 0 0 U8))) held_after

  pub image_after : HoldsImage (with_object objects q (ImageObject image)) q
  image_after = ap (option_map object_kind) held_after

-- an image over what was written
pub with_object_twice :
    (objects : List NamedObject) (q : Reference) (left : ObjectValue) (image : ImageValue)
    → with_object (with_object objects q left) q (ImageObject image)
    ≡ with_object objects q (ImageObject image)
with_object_twice [] q left image = refl
with_object_twice (o ∷ objects) q left image =
    grind (
      arith,
      with_object_twice objects q left image,
      with_slot_twice q.slot image left o.object,
    )

-- ---- what stands in a cell

-- what a cell holds
pub there_is : (objects : List NamedObject) (cell : Reference)
    → Holds objects cell
    → object_at objects cell ≡ Some (cell_object objects cell)
there_is objects cell h = grind arith

pub kind_there : (objects : List NamedObject) (operand : Reference × Kind)
    → HoldsKind objects operand
    → object_kind (cell_object objects operand.0) ≡ operand.1
kind_there objects operand h = grind arith

pub holds_there : (objects : List NamedObject) (operand : Reference × Kind)
    → HoldsKind objects operand
    → Holds objects operand.0
holds_there objects operand h = grind arith

-- an operand is what the cell holds
pub operand_there : (objects : List NamedObject) (cell : Reference)
    → Holds objects cell
    → operand_held objects cell ≡ operand_of (cell_object objects cell)
operand_there objects cell h =
    ap (λ o. unwrap_or (option_map operand_of o) Missing) (there_is objects cell h)

pub held_image : (objects : List NamedObject) (cell : Reference)
    → HoldsImage objects cell
    → object_at objects cell ≡ Some (ImageObject (image_held objects cell))
held_image objects cell h = grind arith

-- ---- what lasts

-- where names increase, what holds of the object of a name holds of each of that name
pub held_once : (objects : List NamedObject) (name : ℕ) (x : ObjectValue)
    → IsStrictlyIncreasing (names_of objects)
    → object_held objects name ≡ Some x
    → All (HasObject name x) objects
held_once objects name x names found =
    subst (λ (o : Option ObjectValue). IfSome o (λ object. All (HasObject name object) objects))
    found (held_alone objects name names)

-- an object that may be written to a cell: as much lasts of it as of the one there
pub record IsReplacement (objects : List NamedObject) (w : Reference × ObjectValue) : Type 0 where
  pub is_object : IsObject w.1
  pub lasts : option_map lasting_part (object_at objects w.0) ≡ Some (lasting_part w.1)

module _ (objects : List NamedObject) (w : Reference × ObjectValue)
    (may : IsReplacement objects w) where
  -- among others of which as much lasts it still may
  pub replaced_after : (others : List NamedObject) → Lasts objects others → IsReplacement others w
  replaced_after others h = record {
    is_object = may.is_object;
    lasts = cell-lasts objects others w.0 h.lasting ∙ may.lasts;
  }

  -- where names increase, it is written there
  pub Lasts-with_object : IsStrictlyIncreasing (names_of objects)
      → All (λ o. IsObject o.object) objects
      → Lasts objects (with_object objects w.0 w.1)
  Lasts-with_object names are = found (object_held objects w.0.name) refl
    where
      there : (x : ObjectValue)
          → object_held objects w.0.name ≡ Some x
          → (o : NamedObject)
          → o.object ≡ x
          → option_map lasting_part (in_slot w.0.slot o.object) ≡ Some (lasting_part w.1)
      there x e o at = grind (arith, may.lasts)

      found : (object : Option ObjectValue)
          → object_held objects w.0.name ≡ object
          → Lasts objects (with_object objects w.0 w.1)
      found None e = absurd (grind (arith, e, may.lasts))
      found (Some x) e =
          let only = held_once objects w.0.name x names e in
          record {
            objects =
                All-with_object (λ o. IsObject o.object) (HasObject w.0.name x) objects w.0 w.1
                (λ o at before named. IsObject-with_slot w.0.slot w.1 o.object
                (skeletons-last (in_slot w.0.slot o.object) (Some w.1) (there x e o (at named)))
                may.is_object before)
                only are;
            lasting =
                map-with_object lasting_named objects w.0 w.1
                (All-weaker (HasObject w.0.name x)
                (λ o. o.name ≡ w.0.name → lasting_named
                (record o { object = with_slot w.0.slot w.1 o.object }) ≡ lasting_named o)
                (λ o at named. grind
                (arith, lasting-with_slot w.0.slot w.1 o.object (there x e o (at named))))
                objects only);
          }

-- so are several, one after the other
pub Lasts-with_written : (objects : List NamedObject) (written : List (Reference × ObjectValue))
    → IsStrictlyIncreasing (names_of objects)
    → All (λ o. IsObject o.object) objects
    → All (IsReplacement objects) written → Lasts objects (with_written objects written)
Lasts-with_written objects [] names are may = record { objects = are; lasting = refl }
Lasts-with_written objects (w ∷ written) names are may =
    let after : List NamedObject = with_object objects w.0 w.1 in
    let one =
    Lasts-with_object objects w (All-head (IsReplacement objects) w written may) names are in
    Lasts-trans objects after (with_written after written) one
    (Lasts-with_written after written (Lasts-names objects after one names) one.objects
    (All-weaker (IsReplacement objects) (IsReplacement after)
    (λ other also. replaced_after objects other also after one) written
    (All-tail (IsReplacement objects) w written may)))
