-- The number of blocks that hold a context's samples, when an object is added and when objects are
-- written.
use Rattle.std.proofs.Common.{◌≡◌, ◌∙◌, ℕ, ◌+◌, ◌-◌, true, List, Some, length, refl, sym, ap, subst, arith, sum, take-append-drop}
use Rattle.client_contexts.proofs.Common.{with_new_keeps, IsStrictlyIncreasing, option_map, All-weaker, sum-map, Format, U8, Reference, reference_to, Description, GraphValue, ImageValue, new_image, image_over, description_of, ObjectValue, ImageObject, DelayObject, GraphObject, object_kind, blocks_in, KeepsBlocks, Context, with_graph, in_slot, NamedObject, object_held, object_at, with_object, image_value, aged_object, IsUnder, HoldsImage, graph_under, object_under, image_held, names_of, map_some}
use Rattle.std.proofs.lemmas.List.Sums.{sum_by-append}
use Rattle.std.proofs.lemmas.Option.{option_and_then_some}
use Rattle.vx_base.specs.declared.kind.Kind.TheVariants as kind
use Rattle.object_table.specs.Ageing.{one_more, with_registration}
use Rattle.object_table.specs.Blocks.{image_blocks, object_blocks}
use Rattle.object_table.specs.Context.{with_new}
use Rattle.object_table.specs.Delay.{with_slot}
use Rattle.object_table.specs.Skeleton.{skeleton}
use Rattle.object_table.proofs.BlockLaws.{blocks-with_new, same_blocks, keeps_blocks}
use Rattle.object_table.proofs.HeldLemmas.{HasObject, map-with_object}
use Rattle.object_table.proofs.SkeletonLaws.{map-determined, skeleton-with_slot}
use Rattle.graph_run.specs.Lasting.{lasting_named, Lasts}
use Rattle.graph_run.proofs.CellLemmas.{held_once}

-- ---- one object more

-- the number grows by that of the object
pub blocks_more : (c new : Context) (object : ObjectValue) (format : Format)
    → new ≡ with_new c object
    → blocks_in new.objects format ≡ blocks_in c.objects format + object_blocks object format
blocks_more c new object format is =
    rw is
    (blocks-with_new c.objects (record { name = c.next; live = true; object = object }) format)

-- an object that is added keeps the limits
pub ruleset insert_steps = (blocks_more, with_new_keeps)

-- ---- objects that are written

-- objects with the same lasting parts have as many blocks
pub lasting_blocks : (objects new : List NamedObject) → Lasts objects new → KeepsBlocks objects new
lasting_blocks objects new h =
    keeps_blocks new objects
    (map-determined lasting_named (λ o. skeleton o.object) (λ left. left.0.object) (λ _. refl)
    new objects h.lasting)

-- a delay that ages has as many blocks
aged_blocks : (object : ObjectValue) (format : Format)
    → object_blocks (aged_object object) format ≡ object_blocks object format
aged_blocks (DelayObject images) format =
    let n = length images - 1 in
    grind (arith, sum_by-append (λ image. image_blocks image format), take-append-drop n images)
aged_blocks other format = refl

module _ (objects : List NamedObject) (names : IsStrictlyIncreasing (names_of objects)) where
  -- the context has as many blocks if the written object has as many
  blocks_replaced : (cell : Reference) (new object : ObjectValue)
      → object_held objects cell.name ≡ Some object
      →
      ((format : Format)
      → object_blocks (with_slot cell.slot new object) format ≡ object_blocks object format)
      → KeepsBlocks objects (with_object objects cell new)
  blocks_replaced cell new object found same format =
      let of_named : NamedObject → ℕ = λ o. object_blocks o.object format in
      sym (sum-map of_named (with_object objects cell new))
      ∙ ap sum (map-with_object of_named objects cell new
      (All-weaker (HasObject cell.name object)
      (λ o. o.name ≡ cell.name
      → of_named (record o { object = with_slot cell.slot new o.object }) ≡ of_named o)
      (λ o at named. subst
      (λ x. object_blocks (with_slot cell.slot new x) format ≡ object_blocks x format)
      (sym (at named)) (same format))
      objects (held_once objects cell.name object names found)))
      ∙ sum-map of_named objects

  -- an image of the same size and format is written
  pub image_blocks_kept : (cell : Reference) (image new : ImageValue)
      → HoldsImage objects cell
      → image_held objects cell ≡ image
      → description_of new ≡ description_of image
      → KeepsBlocks objects (with_object objects cell (ImageObject new))
  image_blocks_kept cell image new there is same =
      let (object, at, of_kind) = map_some object_kind (object_at objects cell) kind.Image there in
      let alike : skeleton object ≡ skeleton (ImageObject new) =
      grind (arith, at, of_kind, is, same) in
      option_and_then_some (in_slot cell.slot) (object_held objects cell.name) object at
      (λ held found there.
      blocks_replaced cell (ImageObject new) held found
      (λ format. same_blocks (with_slot cell.slot (ImageObject new) held) held format
      (skeleton-with_slot cell.slot (ImageObject new) held (rw (there, alike)))))

  -- a delay ages
  pub age_keeps_blocks : (name : ℕ) (object : ObjectValue) → object_held objects name ≡ Some object
      → KeepsBlocks objects
      (with_object objects (reference_to name) (aged_object (object_under objects name)))
  age_keeps_blocks name object found =
      blocks_replaced (reference_to name) (aged_object (object_under objects name)) object found
      (λ format. grind (arith, found, aged_blocks object format))

  -- a graph changes
  pub graph_keeps_blocks : (name : ℕ) (graph : GraphValue)
      → IsUnder objects kind.Graph name
      → KeepsBlocks objects (with_graph objects name graph)
  graph_keeps_blocks name graph is =
      let (object, there, of_kind) =
      map_some object_kind (object_held objects name) kind.Graph is in
      blocks_replaced (reference_to name) (GraphObject graph) object there
      (λ format. grind (arith, of_kind))

  -- a delay is registered with a graph
  pub register_keeps_blocks : (graph delay : ℕ)
      → IsUnder objects kind.Graph graph
      → KeepsBlocks objects (with_registration objects graph (graph_under objects graph) delay)
  register_keeps_blocks graph delay is =
      λ format. grind (
        arith,
        graph_keeps_blocks graph (one_more objects (graph_under objects graph) delay) is format,
      )
