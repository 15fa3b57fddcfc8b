-- Images that leave a table for planes while a graph runs, and come back.
use Rattle.std.proofs.Common.{◌≡◌, ◌<◌, ◌≤◌, List, [], ◌∷◌, length, map, refl, sym, ap, subst, ◌∙◌, inl, inr, Option, None, arith, option_map}
use Rattle.graph_run.proofs.Common.{cases_Bool, AllPairs, Reference, same_reference, ObjectValue, ImageObject, Context, with_objects, NamedObject, with_object, with_written, image_value, image_held, AreApart, In, label_of, option_or}
use Rattle.graph_steps.specs.Planes.{PlaneValue, block_image}
use Rattle.graph_run.specs.Bind.{AreAllApart, AreFor, HoldImages, bare_images, image_plane, image_planes, plane_objects, without_samples}
use Rattle.graph_run.proofs.ObjectLaws.{shown}
use Rattle.graph_run.proofs.HeldLaws.{AreWrites, last_to, or_none, seen-with_written, labels-with_written, form-with_written}
use Rattle.graph_run.proofs.NameLaws.{Rising, rising, same_objects}
use Rattle.graph_run.proofs.CellLemmas.{object_elsewhere, image_elsewhere, held_image}

-- a context of which the objects alone have changed, twice
pub next_context : (start t after : Context) (objects : List NamedObject)
    → t ≡ with_objects start t.objects
    → after ≡ with_objects t objects
    → after ≡ with_objects start after.objects
next_context start t after objects one two =
    two
    ∙ ap (λ (x : Context). with_objects x objects) one
    ∙ ap (with_objects start) (sym (ap (λ (x : Context). x.objects) two))

-- ---- one cell

-- an image that is written to a cell apart from others
module _ (objects : List NamedObject) (q : Reference) (new : ObjectValue) where
  -- leaves what they hold
  pub held_elsewhere : (p : Reference)
      → AreApart p q
      → image_held (with_object objects q new) p ≡ image_held objects p
  held_elsewhere p apart = ap image_value (object_elsewhere objects q p new apart)

  pub images_elsewhere : (cells : List Reference)
      → ((p : Reference) → In p cells → AreApart p q)
      → HoldImages objects cells
      → HoldImages (with_object objects q new) cells
  images_elsewhere cells apart holds p i = image_elsewhere objects q p new (apart p i) (holds p i)

  pub bare_elsewhere : (cells : List Reference)
      → ((p : Reference) → In p cells → AreApart p q)
      → bare_images (with_object objects q new) cells ≡ bare_images objects cells
  bare_elsewhere [] apart = refl
  bare_elsewhere (p ∷ cells) apart =
      grind (arith, held_elsewhere p (apart p (inl refl)), bare_elsewhere cells)

  pub planes_elsewhere : (cells : List Reference)
      → ((p : Reference) → In p cells → AreApart p q)
      → image_planes (with_object objects q new) cells ≡ image_planes objects cells
  planes_elsewhere [] apart = refl
  planes_elsewhere (p ∷ cells) apart =
      grind (arith, held_elsewhere p (apart p (inl refl)), planes_elsewhere cells)

  pub for_elsewhere : (cells : List Reference) (planes : List PlaneValue)
      → ((p : Reference) → In p cells → AreApart p q)
      → AreFor objects cells planes
      → AreFor (with_object objects q new) cells planes
  for_elsewhere (p ∷ cells) (x ∷ planes) apart are =
      grind (arith, held_elsewhere p (apart p (inl refl)), for_elsewhere cells planes)
  for_elsewhere cells planes apart are = grind arith

-- ---- taking out

-- the cells that are left to take out, once the first is
pub record CanTake (objects : List NamedObject) (cells : List Reference) : Type 0 where
  pub images : HoldImages objects cells
  pub apart : AreAllApart cells

module _ (objects : List NamedObject) (c : Reference) (cells : List Reference)
    (can : CanTake objects (c ∷ cells)) where
  abbrev pub bare : ObjectValue
  bare = ImageObject (without_samples (image_held objects c))

  pub taken_can : CanTake (with_object objects c bare) cells
  taken_can = record {
    images = images_elsewhere objects c bare cells can.apart.0 (λ p i. can.images p (inr i));
    apart = can.apart.1;
  }

  pub taken_planes :
      image_planes objects (c ∷ cells)
      ≡ image_plane (image_held objects c) ∷ image_planes (with_object objects c bare) cells
  taken_planes =
      ap (λ l. image_plane (image_held objects c) ∷ l)
      (sym (planes_elsewhere objects c bare cells can.apart.0))

  pub taken_written :
      with_written objects (bare_images objects (c ∷ cells))
      ≡ with_written (with_object objects c bare) (bare_images (with_object objects c bare) cells)
  taken_written =
      ap (with_written (with_object objects c bare))
      (sym (bare_elsewhere objects c bare cells can.apart.0))

-- ---- putting back

pub record CanPut (objects : List NamedObject) (cells : List Reference)
    (planes : List PlaneValue) : Type 0 where
  pub images : HoldImages objects cells
  pub apart : AreAllApart cells
  pub fit : AreFor objects cells planes

module _ (objects : List NamedObject) (c : Reference) (cells : List Reference) (p : PlaneValue)
    (planes : List PlaneValue) (can : CanPut objects (c ∷ cells) (p ∷ planes)) where
  abbrev pub back : ObjectValue
  back = ImageObject (block_image p)

  put_can : CanPut (with_object objects c back) cells planes
  put_can = grind (arith, images_elsewhere, for_elsewhere)

  -- where the table holds the first one's image
  module _ (after : List NamedObject) (left : after ≡ with_object objects c back)
      (others : List PlaneValue) (same : others ≡ planes) where
    pub next_can : CanPut after cells others
    next_can =
        subst (λ (l : List PlaneValue). CanPut after cells l) (sym same)
        (subst (λ (o : List NamedObject). CanPut o cells planes) (sym left) put_can)

    pub next_written :
        with_written after (plane_objects cells others)
        ≡ with_written objects (plane_objects (c ∷ cells) (p ∷ planes))
    next_written =
        ap (λ (l : List PlaneValue). with_written after (plane_objects cells l)) same
        ∙ ap (λ (o : List NamedObject). with_written o (plane_objects cells planes)) left

-- there are enough planes
pub for_length : (objects : List NamedObject) (cells : List Reference) (planes : List PlaneValue)
    → AreFor objects cells planes
    → length cells ≤ length planes
for_length objects (c ∷ cells) (p ∷ planes) are =
    omega (arith, for_length objects cells planes are.3)
for_length objects cells planes are = grind arith

-- ---- both

pub bare_written : (objects : List NamedObject) (cells : List Reference)
    → HoldImages objects cells
    → AreWrites objects (bare_images objects cells)
bare_written objects [] holds w i = absurd i
bare_written objects (c ∷ cells) holds w (inl e) = grind (arith, held_image)
bare_written objects (c ∷ cells) holds w (inr i) = grind (arith, bare_written objects cells)

pub planes_written :
    (objects : List NamedObject) (cells : List Reference) (planes : List PlaneValue)
    → HoldImages objects cells
    → AreFor objects cells planes
    → AreWrites objects (plane_objects cells planes)
planes_written objects (c ∷ cells) (p ∷ planes) holds are w (inl e) = grind (arith, held_image)
planes_written objects (c ∷ cells) (p ∷ planes) holds are w (inr i) =
    grind (arith, planes_written objects cells planes)
planes_written objects cells planes holds are w i = grind arith

-- an image that may be written to a cell may be written to it after others
writes_after : (objects : List NamedObject) (ws vs : List (Reference × ObjectValue))
    → AreWrites objects ws
    → AreWrites objects vs
    → AreWrites (with_written objects ws) vs
writes_after objects ws vs first second w i = let is = second w i in record {
  form = form-with_written ws objects first w.0 ∙ is.form;
  whole = is.whole;
}

-- a cell to which no plane comes back lost no samples
none_back :
    (objects : List NamedObject) (cells : List Reference) (planes : List PlaneValue) (c : Reference)
    → AreFor objects cells planes
    → last_to c (plane_objects cells planes) ≡ None → last_to c (bare_images objects cells) ≡ None
none_back objects (q ∷ cells) (p ∷ planes) c are h =
    grind (
      arith,
      or_none (last_to c (plane_objects cells planes)),
      none_back objects cells planes c,
      cases_Bool (same_reference c q),
    )
none_back objects cells planes c are h = grind arith

over : (p b s : Option ObjectValue)
    → (p ≡ None → b ≡ None)
    → option_or (option_map shown p) (option_or (option_map shown b) s)
    ≡ option_or (option_map shown p) s
over z0 b s h = grind (arith, shown)

-- images whose samples were taken out, and that others replace, are as if they had not been taken
-- out
pub out_and_back : (objects : List NamedObject) (cells : List Reference) (planes : List PlaneValue)
    → AllPairs (λ a b. a.name < b.name) objects
    → HoldImages objects cells
    → AreFor objects cells planes
    → with_written (with_written objects (bare_images objects cells)) (plane_objects cells planes)
    ≡ with_written objects (plane_objects cells planes)
out_and_back objects cells planes up holds are =
    let out : List (Reference × ObjectValue) = bare_images objects cells in
    let back : List (Reference × ObjectValue) = plane_objects cells planes in
    let first = bare_written objects cells holds in
    let second = planes_written objects cells planes holds are in
    let labels :
    map label_of (with_written (with_written objects out) back) ≡ map label_of objects =
    labels-with_written back (with_written objects out) ∙ labels-with_written out objects in
    same_objects (with_written (with_written objects out) back) (with_written objects back)
    (subst Rising (sym labels) (rising objects up))
    (labels ∙ sym (labels-with_written back objects))
    (λ c. grind (
      arith,
      seen-with_written back (with_written objects out)
          (writes_after objects out back first second) c,
      seen-with_written out objects first c,
      over,
      none_back objects cells planes c are,
      seen-with_written back objects second c,
    ))
