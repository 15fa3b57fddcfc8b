-- The table of a graph's objects while the samples of its images are in planes, and when they move
-- back.
use Rattle.std.proofs.Common.{◌≡◌, ◌≢◌, ℕ, suc, ◌<◌, ◌≤◌, List, [], ◌∷◌, length, drop, get_or, refl, sym, ap, subst, ◌∙◌, inl, inr, arith, Option, Some, None, ◌⊎◌, IfSome, unwrap_or, option_map, option_and_then}
use Rattle.std.proofs.lemmas.List.{get_or-drop, length-drop}
use Rattle.graph_run.proofs.Common.{Reference, Function, object_at, HoldsImage, HoldsKind, image_held, ImageObject, ImageValue, In, In-at, Kind, kind_in, NamedObject, Node, object_kind, ObjectValue, operand_held, option_or, resolved_operand, run_of_graph, second_kind, Verified, with_written, description_of, parameters, DistributionObject, ExtremesObject}
use Rattle.vx_base.specs.declared.kind.Kind.TheVariants as kind
use Rattle.vx_base.specs.Description.{sample_count}
use Rattle.pixel_pool.specs.Block.{IsAllOrNone}
use Rattle.graph_steps.specs.declared.tally.Tally.{Tally}
use Rattle.graph_steps.specs.Tallies.{tally_at, tally_of}
use Rattle.graph_steps.specs.Planes.{PlaneValue, no_plane, plane}
use Rattle.graph_run.specs.declared.schedule.Schedule.{Schedule}
use Rattle.graph_run.specs.Bind.{AreFor, HoldImages, bare_images, plane_object, plane_objects, without_samples}
use Rattle.graph_run.specs.Bound.{AreTalliesFor, IsLent, IsTallyFor, KeepTallies, KeepsTally, LendTables}
use Rattle.graph_run.specs.Program.{node_table, table_by, tables_of, tallies_of, tally_by}
use Rattle.graph_run.specs.Results.{last_objects, tally_cells, tally_objects}
use Rattle.graph_run.specs.Schedule.{CanRunBy}
use Rattle.graph_run.specs.Tasks.{client_cells}
use Rattle.graph_run.proofs.BindLemmas.{bare_written, out_and_back, planes_written}
use Rattle.graph_run.proofs.OutputLemmas.{length-histogram}
use Rattle.graph_run.proofs.OperandLaws.{no_delay_written}
use Rattle.graph_run.proofs.SolutionStepsTasks.{one_output, tally_count}
use Rattle.graph_run.proofs.HeldLaws.{AreWrites, last_to, seen, seen-with_written}
use Rattle.graph_run.proofs.LinkLaws.{All-from_In}
use Rattle.graph_run.proofs.ObjectLaws.{shown}
use Rattle.graph_run.proofs.ProgramPlanes.{map_alike}
use Rattle.graph_run.proofs.ReadyLemmas.{second_operand}
use Rattle.graph_run.proofs.RunLemmas.{second_no_delay, with_written-append}
use Rattle.graph_run.proofs.SolutionLaws.{unshown}
use Rattle.graph_run.proofs.SolutionStepsImages.{client_image, one_kind, table_stays, tally_kept}
use Rattle.graph_run.proofs.SolutionStepsEnds.{is_node_of, last_kinds}
use Rattle.graph_run.proofs.PlaneSteps.{plane_at, slots}
use Rattle.graph_run.proofs.SolutionStepsObjects.{IsTallied, Leaves, returns, tally_facts, theirs_at}
use Rattle.graph_run.proofs.SolutionStepsReturns.{comes_back, counted_kind, last_known, last_none, last_some}
use Rattle.graph_run.proofs.VerifiedLemmas.{pairs_of}

-- ---- cells after writes

-- an object that isn't written stays
same_elsewhere : (objects : List NamedObject) (ws : List (Reference × ObjectValue))
    → AreWrites objects ws
    → (c : Reference)
    → last_to c ws ≡ None
    → kind_in objects c ≢ Some kind.Delay
    → object_at (with_written objects ws) c ≡ object_at objects c
same_elsewhere objects ws are c none plain =
    unshown (object_at (with_written objects ws) c) (object_at objects c) plain
    (seen-with_written ws objects are c
    ∙ ap (λ (o : Option ObjectValue). option_or (option_map shown o) (seen objects c)) none)

-- an object to which an image is written has that value
image_there : (objects : List NamedObject) (ws : List (Reference × ObjectValue))
    → AreWrites objects ws
    → (c : Reference) (image : ImageValue)
    → last_to c ws ≡ Some (ImageObject image)
    → object_at (with_written objects ws) c ≡ Some (ImageObject image)
image_there objects ws are c image some =
    unshown (object_at (with_written objects ws) c) (Some (ImageObject image)) (λ delay. cc delay)
    (seen-with_written ws objects are c
    ∙ ap (λ (o : Option ObjectValue). option_or (option_map shown o) (seen objects c)) some)

-- ---- images without samples

in_bare : (objects : List NamedObject) (cells : List Reference) (w : Reference × ObjectValue)
    → In w (bare_images objects cells)
    → In w.0 cells × (w.1 ≡ ImageObject (without_samples (image_held objects w.0)))
in_bare objects [] w i = absurd i
in_bare objects (c ∷ cells) w i = grind (arith, in_bare objects cells w)

bare_there : (objects : List NamedObject) (cells : List Reference) (c : Reference)
    → In c cells
    → In (c, ImageObject (without_samples (image_held objects c))) (bare_images objects cells)
bare_there objects [] c i = absurd i
bare_there objects (d ∷ cells) c i = grind (arith, bare_there objects cells c)

module _ (objects : List NamedObject) (cells : List Reference)
    (holds : HoldImages objects cells) where
  abbrev taken : List NamedObject
  taken = with_written objects (bare_images objects cells)

  taken_held : (c : Reference)
      → In c cells
      → object_at taken c ≡ Some (ImageObject (without_samples (image_held objects c)))
  taken_held c i =
      let bare : ObjectValue = ImageObject (without_samples (image_held objects c)) in
      image_there objects (bare_images objects cells) (bare_written objects cells holds) c
      (without_samples (image_held objects c))
      (elim (last_known c (Some bare) (bare_images objects cells)
      (λ w j e. ap
      (λ (x : Reference). Some (ImageObject (without_samples (image_held objects x)))) e ∙ ap
      (λ (x : ObjectValue). Some x) (sym (in_bare objects cells w j).1))) [
        | inl none ↦
            absurd
            (last_some c bare (bare_images objects cells) (bare_there objects cells c i) none)
        | inr some ↦ some.1 ∙ sym some.2
      ])

  pub taken_images : HoldImages taken cells
  taken_images c i = ap (option_map object_kind) (taken_held c i)

  taken_description : (c : Reference)
      → In c cells
      → description_of (image_held objects c) ≡ description_of (image_held taken c)
  taken_description c i = rw (taken_held c i) refl

  -- planes for the images are planes for these
  pub taken_for : (some : List Reference) (planes : List PlaneValue)
      → ((c : Reference) → In c some → In c cells)
      → AreFor objects some planes
      → AreFor taken some planes
  taken_for (c ∷ some) (q ∷ planes) among are = (
    are.0 ∙ taken_description c (among c (inl refl)),
    are.1,
    are.2,
    taken_for some planes (λ d i. among d (inr i)) are.3,
  )
  taken_for some planes among are = grind arith

  -- objects other than images stay
  pub taken_other : (c : Reference) (k : Kind)
      → HoldsKind objects (c, k)
      → k ≢ kind.Image
      → k ≢ kind.Delay
      → object_at taken c ≡ object_at objects c
  taken_other c k is other no_delay =
      same_elsewhere objects (bare_images objects cells) (bare_written objects cells holds) c
      (last_none c (bare_images objects cells) (λ w i e.
      other
      (one_kind (object_at objects c) k kind.Image is
      (subst (HoldsImage objects) (sym e) (holds w.0 (in_bare objects cells w i).0)))))
      (λ delay. no_delay (one_kind (object_at objects c) k kind.Delay is delay))

-- planes are for images where each is
for_each : (objects : List NamedObject) (cells : List Reference) (planes : List PlaneValue)
    → length cells ≤ length planes
    →
    ((k : ℕ) (d : Reference) → k < length cells →
    ((get_or planes k no_plane).desc ≡ description_of (image_held objects (get_or cells k d))) ×
    ((get_or planes k no_plane).format ≡ (get_or planes k no_plane).desc.format)
    × IsAllOrNone (sample_count (get_or planes k no_plane).desc)
    (length (get_or planes k no_plane).samples))
    → AreFor objects cells planes
for_each objects (c ∷ cells) (q ∷ planes) enough each =
    let own = each 0 c (omega arith) in (
      own.0,
      own.1,
      own.2,
      for_each objects cells planes (omega (arith, enough))
          (λ k d below. each (suc k) d (omega (arith, below))),
    )
for_each objects cells planes enough each = grind arith

-- ---- tables

lent_kinds : (f : Function)
    → unwrap_or (parameters f).second_input kind.Image ≢ kind.Image
    → IsLent (unwrap_or (parameters f).second_input kind.Image)
lent_kinds f other = grind arith

module _ {objects : List NamedObject} {v : Verified} {s : Schedule} (g : CanRunBy objects v s) where
  abbrev theirs : List Reference
  theirs = client_cells v.steps v.virtual_outputs

  hold : HoldImages objects theirs
  hold = client_image g

  abbrev bare : List NamedObject
  bare = with_written objects (bare_images objects theirs)

  table_kind : (n : Node)
      → In n v.steps
      → (c : Reference)
      → n.in2 ≡ Some c
      → second_kind n ≢ kind.Image
      → HoldsKind objects (c, second_kind n)
  table_kind n i c e other =
      ap (option_map object_kind) (sym (table_stays g n i c e other))
      ∙ last_kinds g n i (c, second_kind n) (second_operand n c e)

  read_table : (n : Node)
      → In n v.steps
      → (k : Kind) (o : Option Reference)
      → second_kind n ≡ k
      → n.in2 ≡ o
      →
      (table_by k (option_and_then (object_at bare) o)
      ≡ table_by k (option_and_then (object_at objects) o))
      × IfSome (table_by k (option_and_then (object_at bare) o))
      (λ object. IsLent (object_kind object))
  read_table n i kind.Image o is e = (refl, tt)
  read_table n i k None is e = (refl, tt)
  read_table n i k (Some c) is e =
      let other : second_kind n ≢ kind.Image = λ image. (cc (is, image)) in
      let holds : HoldsKind objects (c, second_kind n) = table_kind n i c e other in
      let same : object_at bare c ≡ object_at objects c =
      taken_other objects theirs hold c (second_kind n) holds other (second_no_delay n.function) in
      (ap (table_by k) same, grind (arith, same, holds, lent_kinds n.function other))

  -- the tables that nodes read are those of the table without samples, and can be lent
  pub tables_same : tables_of bare v.steps ≡ tables_of objects v.steps
  tables_same =
      let read : List (Option ObjectValue) → ℕ → Option ObjectValue = λ l k. get_or l k None in
      ap read
      (map_alike (node_table bare) (node_table objects) v.steps
      (λ n i. (read_table n i (second_kind n) n.in2 refl refl).0))

  pub tables_lent : LendTables bare v.steps
  tables_lent =
      All-from_In
      (λ (n : Node). IfSome (node_table bare n) (λ object. IsLent (object_kind object))) v.steps
      (λ n i. (read_table n i (second_kind n) n.in2 refl refl).1)

  -- the objects in which tallies are kept are there
  keeps_tally : (l : List NamedObject) (wanted : Kind) (c : Reference)
      →
      (wanted ≢ kind.Image
      → HoldsKind l (c, wanted) × ((wanted ≡ kind.Distribution) ⊎ (wanted ≡ kind.Extremes)))
      → KeepsTally l wanted c
  keeps_tally l wanted c kept = grind (arith, kept)

  pub tallies_kept : KeepTallies objects v.steps
  tallies_kept =
      All-from_In
      (λ (n : Node). KeepsTally objects (parameters n.function).output (unwrap_or n.out1 n.in1))
      v.steps (λ n i.
      keeps_tally objects (parameters n.function).output (unwrap_or n.out1 n.in1) (λ other.
      (let out = one_output n (is_node_of g n i).shape other in (
        subst
            (λ (o : Option Reference). HoldsKind objects
            (unwrap_or o n.in1, (parameters n.function).output))
            (sym out.1) (tally_kept g n i other out.0 out.1).1,
        counted_kind n.function other,
      ))))

-- ---- tallies

-- a tally of the object that a cell holds
pub tally_for :
    (l : List NamedObject) (c : Reference) (old : ObjectValue) (a : ImageValue)
    (new counted : Tally)
    → object_at l c ≡ Some old
    → (object_kind old ≡ kind.Distribution) ⊎ (object_kind old ≡ kind.Extremes)
    → tally_by (object_kind old) old ≡ new ∷ [] → counted ≡ tally_of a new → IsTallyFor l c counted
tally_for l c (DistributionObject d) a new counted there of own is =
    grind (arith, length-histogram d.bins a)
tally_for l c (ExtremesObject x) a new counted there of own is = grind arith
tally_for l c old a new counted there of own is = absurd (grind (arith, of))

tallies_each : (l : List NamedObject) (cells : List Reference) (tallies : List Tally)
    → length cells ≤ length tallies
    →
    ((k : ℕ) (d : Reference)
    → k < length cells
    → IsTallyFor l (get_or cells k d) (tally_at tallies k))
    → AreTalliesFor l cells tallies
tallies_each l (c ∷ cells) (t ∷ tallies) enough each = (
  each 0 c (omega arith),
  tallies_each l cells tallies (omega (arith, enough))
      (λ k d below. each (suc k) d (omega (arith, below))),
)
tallies_each l cells tallies enough each = grind arith

-- ---- moving back

module _ {objects : List NamedObject} {v : Verified} {s : Schedule} (g : CanRunBy objects v s)
    {after : List PlaneValue} {counted : List Tally} (leaves : Leaves g after counted) where
  abbrev back : List PlaneValue
  back = drop (slots g) after

  abbrev clients : List Reference
  clients = theirs g

  abbrev out : List NamedObject
  out = bare g

  abbrev came : List NamedObject
  came = with_written out (plane_objects clients back)

  enough_back : length clients ≤ length back
  enough_back = omega (arith, length-drop (slots g) after, leaves.planes_count)

  planes_for : AreFor objects clients back
  planes_for = for_each objects clients back enough_back each
    where
      each : (k : ℕ) (d : Reference) → k < length clients
          →
          ((get_or back k no_plane).desc ≡ description_of (image_held objects (get_or clients k d)))
          × ((get_or back k no_plane).format ≡ (get_or back k no_plane).desc.format)
          × IsAllOrNone (sample_count (get_or back k no_plane).desc)
          (length (get_or back k no_plane).samples)
      each k d below =
          let c : Reference = get_or clients k d in
          let there : get_or back k no_plane ≡ plane after (plane_at g c) =
          get_or-drop (slots g) after k no_plane
          ∙ ap (plane after) (sym (theirs_at g leaves k d below)) in
          let p = leaves.planes c (In-at clients k d below) in (
            ap (λ (q : PlaneValue). q.desc) there ∙ p.1,
            subst (λ (q : PlaneValue). q.format ≡ q.desc.format) (sym there) p.0.format,
            subst (λ (q : PlaneValue). IsAllOrNone (sample_count q.desc) (length q.samples))
                (sym there) (inr p.0.size),
          )

  -- the images come back to cells that hold images of theirs
  pub back_images : HoldImages out clients
  back_images = taken_images objects clients (hold g)

  pub back_for : AreFor out clients back
  back_for = taken_for objects clients (hold g) clients back (λ c i. i) planes_for

  came_is : came ≡ with_written objects (plane_objects clients back)
  came_is = out_and_back objects clients back (pairs_of objects g.names) (hold g) planes_for

  -- the tallies are of objects that are still there
  tally_held : (k : ℕ)
      → (below : k < length (tally_cells v.steps))
      → (r : IsTallied g leaves k)
      → object_at came r.cell ≡ Some r.old
  tally_held k below r =
      ap (λ (l : List NamedObject). object_at l r.cell) came_is
      ∙ same_elsewhere objects (plane_objects clients back)
      (planes_written objects clients back (hold g) planes_for) r.cell
      (last_none r.cell (plane_objects clients back) (λ w i e.
      (let b = comes_back plane_object clients back no_plane w i in
      let cell : r.cell ≡ get_or clients b.0 w.0 =
      e ∙ ap (λ (x : Reference × ObjectValue). x.0) b.2 in
      let image : HoldsImage objects r.cell =
      subst (HoldsImage objects) (sym cell)
      ((hold g) (get_or clients b.0 w.0) (In-at clients b.0 w.0 b.1)) in
      r.other
      (sym r.kind_is ∙ one_kind (object_at objects r.cell) (object_kind r.old) kind.Image
      (ap (option_map object_kind) r.held_before) image))))
      (λ delay.
      (let same : object_kind r.old ≡ kind.Delay = one_kind (object_at objects r.cell)
      (object_kind r.old) kind.Delay (ap (option_map object_kind) r.held_before) delay in
      no_delay_written r.node.function (sym r.kind_is ∙ same)))
      ∙ r.held_before

  pub back_tallies : AreTalliesFor came (tally_cells v.steps) counted
  back_tallies =
      tallies_each came (tally_cells v.steps) counted
      (omega (arith, leaves.tallies_count, tally_count objects v.steps)) (λ k d below.
      (let r = tally_facts g leaves k below in
      subst (λ (c : Reference). IsTallyFor came c (tally_at counted k)) (sym (r.at d))
      (tally_for came r.cell r.old (image_held (last_objects objects g.nodes) r.node.in1)
      (tally_at (tallies_of objects v.steps) k) (tally_at counted k) (tally_held k below r)
      (subst (λ (x : Kind). (x ≡ kind.Distribution) ⊎ (x ≡ kind.Extremes)) (sym r.kind_is)
      (counted_kind r.node.function r.other))
      r.own r.tallied)))

  -- all values written back together are the result of the run
  pub value :
      with_written came (tally_objects (tally_cells v.steps) counted)
      ≡ run_of_graph (resolved_operand (operand_held objects) g.nodes) g.nodes objects
  value =
      ap
      (λ (l : List NamedObject). with_written l (tally_objects (tally_cells v.steps) counted))
      came_is
      ∙ sym
      (with_written-append objects (plane_objects clients back)
      (tally_objects (tally_cells v.steps) counted))
      ∙ returns g leaves
