-- A graph with a schedule is a program over its planes.
use Rattle.std.proofs.Common.{◌≡◌, ◌≢◌, ℕ, ◌+◌, ◌-◌, ◌<◌, ◌≤◌, false, List, [], ◌∷◌, ◌++◌, length, map, drop, get_or, eq-eqb, refl, sym, ap, subst, ◌∙◌, inl, inr, arith, Option, Some, None, IfSome}
use Rattle.std.specs.List.{slice_get}
use Rattle.std.proofs.lemmas.List.{get_or-append-add, get_or_append_left, get_or-map, length-append, length-map, map-append}
use Rattle.std.proofs.lemmas.List.FromFn.{length-map-range_with_len}
use Rattle.std.proofs.lemmas.Option.{get_or_from_slice_get, slice_get_within}
use Rattle.graph_verify.proofs.MemberLemmas.{In-flat_map}
use Rattle.graph_run.proofs.Common.{Description, false_from_ne_true, flat_map, Format, has_twice, held_is, image_held, ImageValue, In, In-at, In-from_any, In-from_same, IsImage, is_written, IsObject, NamedObject, Node, object_at, ObjectValue, outputs, parameters, PlanView, Reference, Verified, writes}
use Rattle.vx_base.specs.declared.format.Format.TheVariants.{S16, U32, U8}
use Rattle.vx_base.specs.declared.kind.Kind.TheVariants as kind
use Rattle.pixel_pool.specs.Block.{BlockValue}
use Rattle.graph_steps.specs.declared.step.Reduction.{Reduction}
use Rattle.graph_steps.specs.declared.step.Step.{Step}
use Rattle.graph_steps.specs.declared.step.Task.{Task}
use Rattle.graph_steps.specs.declared.step.Task.TheVariants.{Reduce, Write}
use Rattle.graph_steps.specs.declared.tally.Tally.{Tally}
use Rattle.graph_steps.specs.Halos.{without_halo}
use Rattle.graph_steps.specs.Planes.{PlaneValue, block_image, block_images, no_plane, plane}
use Rattle.graph_steps.specs.Program.{HaveRoom, HoldsRows, IsClient, IsClients, IsNeeded, IsProgram, IsStepOf, Reduces, images_at_end}
use Rattle.graph_steps.specs.Runs.{CanReduceBand}
use Rattle.graph_steps.specs.Steps.{capacities, capacity}
use Rattle.graph_steps.specs.Tallies.{AreNew, AreTallied, HaveOneReduction, TakesFormat}
use Rattle.graph_run.specs.declared.schedule.Schedule.{Schedule}
use Rattle.graph_run.specs.Bind.{image_plane, image_planes}
use Rattle.graph_run.specs.Blocks.{band_plan, band_samples, block_size, samples_for, task_samples}
use Rattle.graph_run.specs.Cells.{index_of}
use Rattle.graph_run.specs.Program.{node_tallies, tallies_of}
use Rattle.graph_run.specs.Schedule.{ArePlanes, CanRunBy, schedule_clients}
use Rattle.graph_run.specs.Slots.{capacities_for, planned_capacities, slot_index, slot_total}
use Rattle.graph_run.specs.Steps.{RunsTo}
use Rattle.graph_run.specs.Tasks.{graph_tasks}
use Rattle.graph_run.proofs.CellLemmas.{held_image}
use Rattle.graph_run.proofs.HaloSteps.{bare_ends, bare_needed, bare_one, bare_reduce, bare_reduces, bare_runs, bare_step, bare_tallied, bare_unwritten, bare_writer}
use Rattle.graph_run.proofs.IndexLemmas.{at_index, index_below}
use Rattle.graph_run.proofs.LinkLaws.{In-from_All}
use Rattle.graph_run.proofs.NeedSteps.{Fine, all_fine}
use Rattle.graph_run.proofs.PlaneSteps.{IsVirtual, client_at, client_desc, plane_at, plane_below, slots, virtual_desc, virtual_found, virtual_plane}
use Rattle.graph_run.proofs.RunLemmas.{runs_first}
use Rattle.graph_run.proofs.SlotLemmas.{has_slot, home_at, planned_at, planned_slots}
use Rattle.graph_run.proofs.SolutionStepsEnds.{in_steps, is_node_of, last_can, last_lasts, solves}
use Rattle.graph_run.proofs.SolutionStepsImages.{cell_there, client_image, client_there, clients, ends, ends_held, have, starts_client, starts_image, virtual_by, virtual_or}
use Rattle.graph_run.proofs.SolutionStepsTasks.{one_output}
use Rattle.graph_run.proofs.TallySteps.{Each, IsReductionOf, each_tally, new_tallies, reduced_format, reductions}
use Rattle.graph_run.proofs.TurnSteps.{Counted, Current, Does, Takes, all_do, describes, radius, tables, whole}

-- ---- the samples of a slot

in_samples : (size slot : ℕ) (tasks : List Task) (s : Step)
    → IsStepOf s tasks
    → task_samples size slot (Write s) ≤ samples_for size slot tasks
in_samples size slot [] s i = absurd i
in_samples size slot (Write t ∷ tasks) s (inl e) = rw e (omega arith)
in_samples size slot (Write t ∷ tasks) s (inr i) =
    let h = in_samples size slot tasks s i in omega arith
in_samples size slot (Reduce r ∷ tasks) s i = let h = in_samples size slot tasks s i in omega arith

own_samples : (size : ℕ) (s : Step) (d : Description)
    → s.describes ≡ Some d
    → task_samples size s.output (Write s) ≡ band_samples size s.halo d
own_samples size s d some = let same = eq-eqb s.output s.output refl in rw (same, some) refl

planned_length : (p : PlanView) → length (planned_capacities p) ≡ slot_total p
planned_length p =
    let each : (f : Format) → length (capacities_for p f) ≡ p.slot_count f =
    λ f. length-map-range_with_len
    (λ k. let room : Format × ℕ = (f, p.slot_samples f k) in room) 0 (p.slot_count f) in
    omega (
      arith,
      length-append (capacities_for p U8 ++ capacities_for p S16) (capacities_for p U32),
      length-append (capacities_for p U8) (capacities_for p S16),
      each U8,
      each S16,
      each U32,
    )

module _ {objects : List NamedObject} {v : Verified} {s : Schedule} (g : CanRunBy objects v s) where
  abbrev bare : List Task
  bare = graph_tasks v.steps v.virtual_outputs g.slots (radius g)

  bare_is : map without_halo s.tasks.items ≡ bare
  bare_is = g.schedule.tasks

  writers_once : has_twice (flat_map outputs v.steps) ≡ false
  writers_once = (have g).writers

  pub fine : Fine g (flat_map outputs v.steps) (map without_halo s.tasks.items)
  fine =
      subst (Fine g (flat_map outputs v.steps)) (sym bare_is)
      (all_fine g [] v.steps 0 0 refl (have g).turn writers_once)

  clients_are : schedule_clients v s ≡ clients g
  clients_are = ap (drop (length v.virtual_outputs)) g.schedule.cells

  module _ {blocks : List BlockValue}
      (planned : map block_size blocks
      ≡ planned_capacities (band_plan s.size s.tasks.items g.slots))
      {planes : List PlaneValue} (t : ArePlanes objects v s blocks planes) where
    abbrev size_of : PlaneValue → Format × ℕ
    size_of q = (q.format, length q.samples)

    pub slot_count : length t.slots ≡ slots g
    slot_count =
        sym (length-map t.slots size_of)
        ∙ ap length (t.sizes ∙ planned)
        ∙ planned_length (band_plan s.size s.tasks.items g.slots)

    pub block_count : length blocks ≡ slots g
    block_count =
        sym (length-map blocks block_size)
        ∙ ap length (sym t.sizes)
        ∙ length-map t.slots size_of
        ∙ slot_count

    planes_are : planes ≡ t.slots ++ image_planes objects (clients g)
    planes_are = t.all ∙ ap (λ l. t.slots ++ image_planes objects l) clients_are

    pub plane_count : length planes ≡ slots g + length (clients g)
    plane_count =
        ap length planes_are
        ∙ omega (
          arith,
          length-append t.slots (image_planes objects (clients g)),
          length-map (clients g) (λ c. image_plane (image_held objects c)),
          slot_count,
        )

    -- the plane of a client's image
    at_client : (k : ℕ) (d : Reference)
        → k < length (clients g)
        → plane planes (slots g + k) ≡ image_plane (image_held objects (get_or (clients g) k d))
    at_client k d below =
        ap (λ l. plane l (slots g + k)) planes_are
        ∙ ap (λ n. plane (t.slots ++ image_planes objects (clients g)) (n + k)) (sym slot_count)
        ∙ get_or-append-add t.slots (image_planes objects (clients g)) k no_plane
        ∙ get_or-map (λ (c : Reference). image_plane (image_held objects c)) (clients g) k d
        no_plane below

    pub client_plane : (c : Reference)
        → In c (clients g)
        → plane planes (plane_at g c) ≡ image_plane (image_held objects c)
    client_plane c i =
        ap (plane planes) (client_at g c i)
        ∙ at_client (index_of (clients g) c) c (index_below (clients g) c i)
        ∙ ap (λ d. image_plane (image_held objects d)) (at_index (clients g) c c i)

    client_held : (c : Reference) → In c (clients g) → IsImage (image_held objects c)
    client_held c i =
        let holds = client_image g c i in
        subst (λ (o : Option ObjectValue). IfSome o IsObject) (held_image objects c holds)
        (held_is objects c g.are)

    plane_client : (image : ImageValue) → IsImage image → IsClient (image_plane image)
    plane_client image is = record {
      whole = record { format = refl; top = refl; size = is.size; valid = is.room };
      rows = refl;
      image = is;
    }

    -- the client's image whose plane this is
    client_of : (k : ℕ)
        → IsClients (slots g) (length planes) k
        → (c : Reference) × In c (clients g) × (plane planes k ≡ image_plane (image_held objects c))
    client_of k is =
        let none : Reference = record { name = 0; slot = None } in
        let j : ℕ = k - slots g in
        let from = is.0 in
        let to = is.1 in
        let below : j < length (clients g) = omega (arith, plane_count) in
        let same : slots g + j ≡ k = omega arith in (
          get_or (clients g) j none,
          In-at (clients g) j none below,
          ap (plane planes) (sym same) ∙ at_client j none below,
        )

    -- ---- the tasks

    starts_now : Current g v.steps (flat_map outputs v.steps) (block_images planes)
    starts_now = record {
      client = λ c i. (
        (λ j. ap block_image (client_plane c i)),
        (λ absent.
            let unwritten : is_written g.nodes c ≡ false =
            false_from_ne_true (is_written g.nodes c) (λ w.
            let m = In-from_any (λ (x : Node). writes x c) g.nodes w in
            absent
            (In-flat_map outputs m.0 c v.steps (in_steps g m.0 m.1)
            (In-from_same c (outputs m.0) m.2)))
            in
            let stays : object_at (ends g) c ≡ object_at objects c =
            (solves g).others c unwritten
            (λ delay. cc (starts_image g c (client_there g c i), delay))
            ∙ starts_client g c i in
            ap block_image (client_plane c i) ∙ rw stays refl),
      );
      virtual_image =
          λ c i absent used. let m =
          virtual_by g c i in absurd (absent (In-flat_map outputs m.0 c v.steps m.1 m.2));
    }

    pub does : Does g 0 v.steps (map without_halo s.tasks.items) (block_images planes)
    does =
        subst (λ l. Does g 0 v.steps l (block_images planes)) (sym bare_is)
        (all_do g [] v.steps 0 refl (have g).turn writers_once (block_images planes) starts_now)

    -- each slot's block is large enough
    room : HaveRoom s.size s.tasks.items (capacities planes)
    room w i d some =
        let o = fine.writes_these (record w { halo = 0 }) (bare_step w s.tasks.items i) in
        elim (virtual_or g o.cell o.among) [
          | inr j ↦ absurd (let none = client_desc g o.cell j in let is = o.describes_is in cc)
          | inl j ↦ slot_room w i d some o.cell (virtual_found g o.cell j) o.output o.describes_is
        ]
      where
        slot_room : (w : Step)
            → IsStepOf w s.tasks.items
            → (d : Description)
            → w.describes ≡ Some d
            → (c : Reference) (f : IsVirtual g c)
            → w.output ≡ plane_at g c
            → w.describes ≡ describes g c
            → HoldsRows s.size w.halo d (capacity (capacities planes) w.output)
        slot_room w i d some c f output is =
            let image = f.image in
            let desc : image.desc ≡ d =
            same_some image.desc d (sym (virtual_desc g c f) ∙ sym is ∙ some) in
            let h =
            has_slot v.steps v.virtual_outputs g.slots
            (planned_slots v.steps v.virtual_outputs g.slots g.plan) image f.inside in
            let q = band_plan s.size s.tasks.items g.slots in
            let at : w.output ≡ slot_index g.slots image.desc.format h.slot =
            output
            ∙ virtual_plane g c f
            ∙ home_at v.steps v.virtual_outputs g.slots
            (planned_slots v.steps v.virtual_outputs g.slots g.plan) image h in
            let there :
            slice_get (planned_capacities q) (slot_index g.slots image.desc.format h.slot)
            ≡ Some (
              image.desc.format,
              samples_for s.size (slot_index g.slots image.desc.format h.slot) s.tasks.items,
            ) =
            planned_at q image.desc.format h.slot h.below in
            let within =
            slice_get_within (planned_capacities q)
            (slot_index g.slots image.desc.format h.slot) _ there in
            let sizes :
            capacities planes
            ≡ planned_capacities q ++ capacities (image_planes objects (clients g)) =
            ap capacities planes_are
            ∙ map-append size_of t.slots (image_planes objects (clients g))
            ∙ ap (λ l. l ++ capacities (image_planes objects (clients g))) (t.sizes ∙ planned) in
            let block :
            capacity (capacities planes) w.output
            ≡ (image.desc.format, samples_for s.size w.output s.tasks.items) =
            ap (λ l. capacity l w.output) sizes
            ∙ ap
            (capacity (planned_capacities q ++ capacities (image_planes objects (clients g))))
            at
            ∙ get_or_append_left (planned_capacities q)
            (capacities (image_planes objects (clients g))) (U8, 0)
            (slot_index g.slots image.desc.format h.slot) within
            ∙ get_or_from_slice_get (planned_capacities q)
            (slot_index g.slots image.desc.format h.slot) _ (U8, 0) there
            ∙ ap
            (λ n. let b : Format × ℕ = (image.desc.format, samples_for s.size n s.tasks.items) in b)
            (sym at) in
            let enough : band_samples s.size w.halo d ≤ samples_for s.size w.output s.tasks.items =
            subst (λ n. n ≤ samples_for s.size w.output s.tasks.items)
            (own_samples s.size w d some) (in_samples s.size w.output s.tasks.items w i) in
            subst (HoldsRows s.size w.halo d) (sym block) (
              ap (λ (e : Description). e.format) desc,
              enough,
            )
          where
            same_some : (a b : Description) → ◌≡◌ {A = Option Description} (Some a) (Some b) → a ≡ b
            same_some a b e = cc

    reads_of : (r : Reduction)
        → Reduces r s.tasks.items
        → IsReductionOf (plane_at g) (describes g) (radius g) v.steps r
    reads_of r i =
        ((reductions (plane_at g) (describes g) (radius g) v.steps 0 0).1 r
        (subst (Reduces r) bare_is (bare_reduces r s.tasks.items i))).1

    pub scheduled : IsProgram (tables g) s.high s.size (slots g) s.tasks.items planes
    scheduled = record {
      some = g.schedule.some;
      forward = g.schedule.forward;
      clients =
          λ k is. let c =
          client_of k is in rw c.2 (plane_client (image_held objects c.0) (client_held c.0 c.1));
      tall =
          λ k is. let c =
          client_of k is in rw c.2
          (In-from_All (λ (d : Reference). (image_held objects d).height ≤ s.high) (clients g)
          g.schedule.clients c.0 c.1);
      names = λ w i.
          let n = fine.names (record w { halo = 0 }) (bare_step w s.tasks.items i) in
          rw plane_count
          (record {
            output = n.output;
            reads = n.reads;
            virtual = n.virtual;
            client = n.client;
            own =
                n.own;
          });
      inputs =
          λ r i. let q =
          reads_of r i in rw plane_count
          (subst (λ n. n < slots g + length (clients g)) (sym q.input)
          (plane_below g q.node.in1 (cell_there g q.node q.inside q.node.in1 (inl refl))));
      runs = bare_runs (tables g) s.high s.tasks.items (block_images planes) does.runs;
      one_writer = bare_writer s.tasks.items fine.one_writer;
      begins = λ k more needed.
          let n =
          bare_needed (IsClients (slots g) (length planes)) s.high s.tasks.items k more needed in
          let b =
          fine.begins k n.0
          (subst
          (λ m. IsNeeded (IsClients (slots g) m) s.high (map without_halo s.tasks.items) k n.0)
          plane_count n.1)
          (λ c m i j image gone. absurd (gone (In-flat_map outputs m c v.steps i j))) in (
            bare_unwritten s.tasks.items k b.0,
            subst (λ m. IsClients (slots g) m k)
                (sym plane_count) b.1,
          );
      enough = g.schedule.enough;
      room = room;
      once = g.schedule.once;
    }

    -- ---- tallies

    each_takes : Each (Takes g (tallies_of objects v.steps)) 0 v.steps
    each_takes =
        each_tally (Takes g (tallies_of objects v.steps)) objects v.steps []
        (tallies_of objects v.steps) refl (λ n k x i other own below at. record {
          below = below;
          format = subst (TakesFormat (whole g n.in1).format) (sym at) (node_takes n i other x own);
          new = new_tallies objects v.steps k;
        })
      where
        node_takes : (n : Node)
            → In n v.steps
            → (parameters n.function).output ≢ kind.Image
            → (x : Tally)
            → node_tallies objects n ≡ x ∷ []
            → TakesFormat (whole g n.in1).format x
        node_takes n i other x own =
            let out = one_output n (is_node_of g n i).shape other in
            let runs : RunsTo (ends g) n out.0 =
            subst (λ o. IfSome o (RunsTo (ends g) n)) out.1
            (runs_first n (ends g) (last_lasts g).objects (last_can g n i)) in
            let first = ends_held g n.in1 (cell_there g n i n.in1 (inl refl)) in
            reduced_format n.function (whole g n.in1).format _ _ _ x other runs.runs.formats own

    pub scheduled_reduces :
        CanReduceBand (tables g) 0 s.tasks.items (block_images planes) (tallies_of objects v.steps)
    scheduled_reduces = record {
      apart =
          bare_one s.tasks.items
          (subst HaveOneReduction (sym bare_is)
          (reductions (plane_at g) (describes g) (radius g) v.steps 0 0).0);
      reduces =
          bare_reduce (tables g) 0 s.tasks.items (block_images planes)
          (tallies_of objects v.steps) (does.reduces (tallies_of objects v.steps) each_takes);
    }

    pub scheduled_new : AreNew s.tasks.items (tallies_of objects v.steps)
    scheduled_new r i = new_tallies objects v.steps r.tally

    -- ---- after the run

    pub client_ends : (c : Reference)
        → In c (clients g)
        → images_at_end (tables g) s.tasks.items (block_images planes) (plane_at g c) ≡ whole g c
    client_ends c i =
        sym (bare_ends (tables g) s.tasks.items (block_images planes) (plane_at g c))
        ∙ does.ends_with c i

    pub tallies_end : (counted : List Tally)
        → AreTallied (tables g) s.tasks.items (block_images planes) (tallies_of objects v.steps)
        counted
        → Each (Counted g (tallies_of objects v.steps) counted) 0 v.steps
    tallies_end counted done =
        does.counts (tallies_of objects v.steps) counted
        (bare_tallied (tables g) s.tasks.items (block_images planes)
        (tallies_of objects v.steps) counted done)
