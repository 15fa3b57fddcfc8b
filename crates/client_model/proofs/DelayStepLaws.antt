-- A new delay, a delay that ages, and one that is registered with a graph keep the limits and the
-- objects held.
use Rattle.std.proofs.Common.{◌≡◌, ℕ, false, IfOk, IsTrue, List, [], ◌∷◌, length, map, get_or, replicate, refl, ap, arith, Option, Some, None, IfSome, Result, Ok, Err, rules, All, length-take, length-drop, length-append}
use Rattle.client_model.proofs.Common.{option_map, option_and_then, length-map, All-tail, All-cons, All-append, Reference, reference_to, Description, ImageValue, IsImage, description_of, ObjectValue, GraphObject, IsObject, in_slot, NamedObject, object_held, Context, object_named, with_objects, with_graph, Refusal, LimitsValue, image_of, KeepsLimits, lasting_part, lasting_named, Lasts, object_held_has, cond_both, GraphValue, IsGraph}
use Rattle.vx_base.specs.declared.format.Format.TheVariants.{U8}
use Rattle.vx_base.specs.Object.{DelayObject, IsDelay}
use Rattle.std.proofs.lemmas.List.{get_or-map}
use Rattle.std.proofs.lemmas.List.Elements.{All-take, All-drop}
use Rattle.vx_base.specs.Image.{new_image, image_over}
use Rattle.vx_base.specs.Graph.{is_registered}
use Rattle.vx_base.specs.Rectangle.{empty_rectangle}
use Rattle.vx_base.specs.Slots.{is_slot_count}
use Rattle.object_table.specs.Delay.{new_delay, aged_images}
use Rattle.object_table.specs.Ageing.{is_there, one_more, aged_if, aged_under, with_registration}
use Rattle.object_table.specs.Object.{aged_object}
use Rattle.object_table.proofs.AgeLemmas.{apart_and}
use Rattle.object_table.proofs.DelayLemmas.{alike, count_is, new_delay_is}
use Rattle.graph_verify.proofs.GraphLemmas.{IsGraph-with_delays}
use Rattle.client_model.specs.Delays.{create_like, create_delay, age_named, age_delay, register_named, register_auto_aging}
use Rattle.object_table.specs.Skeleton.{image_skeleton}
use Rattle.client_model.proofs.NamedLaws.{held_if_live, live_has}
use Rattle.client_model.proofs.StateLaws.{Leaves, same_leaves, with_object_leaves}
use Rattle.client_model.proofs.OutcomeLaws.{Keeps, create_keeps}
use Rattle.client_model.proofs.ImageStepLaws.{image_of_is}

-- ---- a new delay

-- a new delay keeps the limits
pub create_delay_keeps : (limits : LimitsValue) (c : Context) (cell : Reference) (slots : ℕ)
    → KeepsLimits limits c
    → IsTrue (is_slot_count slots)
    → Keeps limits c (create_delay limits c cell slots)
create_delay_keeps limits c cell slots h is =
    of_image (image_of c.objects cell) (image_of_is limits c cell h)
  where
    of_image : (image : Result ImageValue Refusal)
        → IfOk image IsImage
        → Keeps limits c (create_like limits c image slots)
    of_image (Err refusal) image_is = tt
    of_image (Ok image) image_is =
        let count = count_is slots is in
        create_keeps limits c (DelayObject (new_delay (description_of image) slots)) h
        (new_delay_is (description_of image) slots image_is.sides count.0 count.1) refl

-- ---- a delay one step later

-- there are as many images as before
length-aged : (images : List ImageValue) → length (aged_images images) ≡ length images
length-aged images = grind (arith, length-append, length-drop, length-take)

-- what holds of each image still does
All-aged : (P : ImageValue → Type 0) (images : List ImageValue)
    → All P images
    → All P (aged_images images)
All-aged P images h = search (rules, All-append, All-drop, All-take)

-- images of one description have one skeleton
skeletons_alike : (d : Description) (images : List ImageValue)
    → All (λ image. description_of image ≡ d) images
    → map image_skeleton images ≡ replicate (length images) (image_over d empty_rectangle [])
skeletons_alike d [] h = refl
skeletons_alike d (image ∷ images) h =
    grind (
      arith,
      skeletons_alike d images (All-tail (λ x. description_of x ≡ d) image images h),
      h 0 image (omega arith),
    )

-- the description of each image of a delay
abbrev common : List ImageValue → Description
common images = get_or (map description_of images) 0 (description_of (new_image 0 0 U8))

-- each image of a delay has it
of_common : (images : List ImageValue)
    → IsDelay images
    → All (λ image. description_of image ≡ common images) images
of_common images is k default below =
    let d = description_of (new_image 0 0 U8) in
    grind (
      arith,
      get_or-map description_of images k default d below,
      is.alike 0 k d,
      length-map images description_of,
    )

-- it is a delay still
pub aged_is : (images : List ImageValue) → IsDelay images → IsDelay (aged_images images)
aged_is images is =
    let common_still =
    All-aged (λ image. description_of image ≡ common images) images (of_common images is) in
    grind (
      arith,
      length-aged images,
      All-aged IsImage images is.each,
      alike (common images) (aged_images images) common_still,
    )

-- of which as much lasts
aged_lasts : (images : List ImageValue)
    → IsDelay images
    → lasting_part (DelayObject (aged_images images)) ≡ lasting_part (DelayObject images)
aged_lasts images is =
    let one = of_common images is in
    cc (
      skeletons_alike (common images) images one,
      skeletons_alike (common images) (aged_images images)
          (All-aged (λ image. description_of image ≡ common images) images one),
      length-aged images,
    )

-- a delay one step later keeps the limits, and what is held
pub age_delay_keeps : (limits : LimitsValue) (c : Context) (name : ℕ)
    → KeepsLimits limits c
    → Keeps limits c (age_delay c name)
age_delay_keeps limits c name h =
    of_found (object_named c.objects name)
    (live_has c.objects name IsObject h.names (object_held_has IsObject c.objects name h.objects))
    (held_if_live c.objects name h.names)
  where
    of_found : (object : Option ObjectValue)
        → IfSome object IsObject
        → IfSome object (λ x. object_held c.objects name ≡ Some x)
        → Keeps limits c (age_named c name object)
    of_found (Some (DelayObject images)) is found =
        with_object_leaves limits (λ name. false) c h (
          reference_to name,
          DelayObject (aged_images images),
        )
        (record { is_object = aged_is images is; lasts = cc (aged_lasts images is) })
    of_found object is found = grind arith

-- ---- delays that age with a graph

-- of an object of which a delay is one step later as much lasts
aged_object_lasts : (object : ObjectValue)
    → IsObject object
    → IsObject (aged_object object) × (lasting_part (aged_object object) ≡ lasting_part object)
aged_object_lasts (DelayObject images) is = (aged_is images is, aged_lasts images is)
aged_object_lasts other is = (is, refl)

aged_if_lasts : (names : List ℕ) (o : NamedObject)
    → IsObject o.object
    → IsObject (aged_if names o).object × (lasting_named (aged_if names o) ≡ lasting_named o)
aged_if_lasts names o is = grind (arith, aged_object_lasts o.object is)

-- once delays of some names are aged, as much lasts of the objects
pub aged_under_last : (names : List ℕ) (objects : List NamedObject)
    → All (λ o. IsObject o.object) objects
    → Lasts objects (aged_under names objects)
aged_under_last names [] is = record { objects = is; lasting = refl }
aged_under_last names (o ∷ objects) is =
    let first = aged_if_lasts names o (is 0 o (omega arith)) in
    let rest = aged_under_last names objects (All-tail (λ p. IsObject p.object) o objects is) in
    grind (arith, All-cons)

-- a delay that is registered keeps the limits, and what is held
registered_leaves : (limits : LimitsValue) (c : Context) (graph delay : ℕ) (found : GraphValue)
    → KeepsLimits limits c
    → IsGraph found
    → object_held c.objects graph ≡ Some (GraphObject found)
    → Leaves limits (λ name. false) c
    (with_objects c (with_registration c.objects graph found delay))
registered_leaves limits c graph delay found h is held =
    let more : List NamedObject = with_graph c.objects graph (one_more c.objects found delay) in
    cond_both (is_registered found delay) c.objects more
    (λ objects. Leaves limits (λ name. false) c (with_objects c objects))
    (λ there. same_leaves limits (λ name. false) c h)
    (λ new. with_object_leaves limits (λ name. false) c h
    (reference_to graph, GraphObject (one_more c.objects found delay))
    (record {
      is_object =
          IsGraph-with_delays found (one_more c.objects found delay).delays is
          (apart_and found.delays (is_there c.objects) delay is.delays new);
      lasts = ap (λ o. option_map lasting_part (option_and_then (in_slot None) o)) held;
    }))

pub register_keeps : (limits : LimitsValue) (c : Context) (graph delay : ℕ)
    → KeepsLimits limits c
    → Keeps limits c (register_auto_aging c graph delay)
register_keeps limits c graph delay h =
    of_found (object_named c.objects graph) (object_named c.objects delay)
    (live_has c.objects graph IsObject h.names (object_held_has IsObject c.objects graph h.objects))
    (held_if_live c.objects graph h.names)
  where
    of_found : (first second : Option ObjectValue)
        → IfSome first IsObject
        → IfSome first (λ x. object_held c.objects graph ≡ Some x)
        → Keeps limits c (register_named c graph delay first second)
    of_found (Some (GraphObject found)) (Some (DelayObject images)) is held =
        registered_leaves limits c graph delay found h is held
    of_found first second is held = grind arith
