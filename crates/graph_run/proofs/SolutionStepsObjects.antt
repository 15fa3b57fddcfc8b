-- The objects written back to a table after a run over planes are the result of the graph's run.
use Rattle.std.proofs.Common.{◌≡◌, ◌≢◌, ℕ, ◌+◌, ◌<◌, ◌≤◌, true, false, List, [], ◌∷◌, ◌++◌, map, length, drop, get_or, refl, sym, ap, subst, ◌∙◌, inl, inr, arith, Option, Some, None, ◌⊎◌, unwrap_or, option_map, option_and_then}
use Rattle.std.proofs.lemmas.List.{get_or-drop, length-drop}
use Rattle.graph_run.proofs.Common.{cases_Bool, Reference, objects_at_end, form_of, object_at, image_held, ImageObject, ImageValue, In, in_slot, In-append, In-at, In-from_any, In-from_same, In-left, In-right, is_virtual_object, is_written, Kind, label_of, Lasts, NamedObject, optional_cells, Operand, Node, node_output, First, object_held, object_kind, ObjectValue, operand_held, option_or, outputs, parameters, description_of, has_twice, once_after, resolved_operand, run_of_graph, Verified, with_written, writes, operand_of}
use Rattle.vx_base.specs.declared.kind.Kind.TheVariants as kind
use Rattle.vx_base.specs.PartialDescription.{PartialDescription}
use Rattle.graph_verify.specs.declared.operand.Operand.TheVariants.{Virtual}
use Rattle.graph_steps.specs.declared.tally.Tally.{Tally}
use Rattle.graph_steps.specs.Planes.{IsWhole, PlaneValue, block_image, no_plane, plane}
use Rattle.graph_steps.specs.Tallies.{tally_at, tally_of}
use Rattle.graph_run.specs.declared.schedule.Schedule.{Schedule}
use Rattle.graph_run.specs.Bind.{plane_object, plane_objects}
use Rattle.graph_run.specs.Program.{node_tallies, tallies_of, tally_by}
use Rattle.graph_run.specs.Results.{tally_cells, tally_object, tally_objects}
use Rattle.graph_run.specs.Schedule.{CanRunBy}
use Rattle.graph_run.proofs.BegunLaws.{both_held, kept_virtual, labels-forgotten, object_held-forgotten}
use Rattle.graph_run.proofs.HeldLaws.{AreWrites, labels-with_written, last_to, seen, seen-with_written}
use Rattle.graph_run.proofs.IndexLemmas.{cells_parts, index_at}
use Rattle.graph_run.proofs.NameLaws.{Rising, rising, same_objects}
use Rattle.graph_run.proofs.ObjectLaws.{is_delay, shown}
use Rattle.graph_run.proofs.OperandLaws.{declared_of_virtual, virtual_there}
use Rattle.graph_run.proofs.ProgramLemmas.{image_named}
use Rattle.graph_run.proofs.SolutionStepsEnds.{first_real, in_nodes, in_steps, is, is_node_of, last_labels, last_lasts, solves, unwritten_seen}
use Rattle.graph_run.proofs.SolutionStepsImages.{cell_there, cells, cells_once, client_image, client_there, clients, ends, ends_held, holds_output, image_real, starts, tally_kept, virtual, virtual_by, virtual_is, virtual_or}
use Rattle.graph_run.proofs.SolutionStepsReturns.{comes_back, counted_kind, each_comes, forgotten_are, forgotten_lasting, kept_real, last_known, last_none, last_some, tally_output}
use Rattle.graph_run.proofs.SolutionStepsTasks.{image_or, one_output, tally_count, tally_there}
use Rattle.graph_run.proofs.TallySteps.{Each, each_both, each_tally, node_of}
use Rattle.graph_run.proofs.TurnSteps.{Counted, whole}
use Rattle.graph_run.proofs.PlaneSteps.{client_at, plane_at, slots}
use Rattle.graph_run.proofs.VerifiedLemmas.{named_by_output, pairs_of}

-- a tally's object is no delay
tally_plain : (t : Tally) → is_delay (tally_object t) ≡ false
tally_plain t = grind arith

some_kind : (o : Option ObjectValue) (k : Kind)
    → option_map object_kind o ≡ Some k
    → (x : ObjectValue) × (o ≡ Some x) × (object_kind x ≡ k)
some_kind o k e = grind arith

-- the new tally of a node is that of the object that it writes
own_tally :
    (objects : List NamedObject) (n : Node) (c : Reference) (old : ObjectValue) (new : Tally)
    → n.out1 ≡ Some c
    → object_at objects c ≡ Some old
    → object_kind old ≡ (parameters n.function).output
    → node_tallies objects n ≡ new ∷ [] → tally_by (object_kind old) old ≡ new ∷ []
own_tally objects n c old new out there is own = rw is (rw (out, there) at own)

-- what a run leaves in the planes and the tallies
pub record Leaves {objects : List NamedObject} {v : Verified} {s : Schedule}
    (g : CanRunBy objects v s) (after : List PlaneValue) (counted : List Tally) : Type 0 where
  pub images : (c : Reference)
      → In c (clients g)
      → block_image (plane after (plane_at g c)) ≡ whole g c
  pub planes : (c : Reference)
      → In c (clients g)
      → IsWhole (plane after (plane_at g c))
      × ((plane after (plane_at g c)).desc ≡ description_of (image_held objects c))
  pub counts : Each (Counted g (tallies_of objects v.steps) counted) 0 v.steps
  pub planes_count : length after ≡ slots g + length (clients g)
  pub tallies_count : length counted ≡ length (tallies_of objects v.steps)

module _ {objects : List NamedObject} {v : Verified} {s : Schedule} (g : CanRunBy objects v s) where
  -- the run leaves objects, and of each what lasts
  pub run_lasts :
      Lasts objects (run_of_graph (resolved_operand (operand_held objects) g.nodes) g.nodes objects)
  run_lasts =
      let l = last_lasts g in
      record {
        objects = forgotten_are objects _ g.are l.objects;
        lasting =
            forgotten_lasting (resolved_operand (operand_held objects) g.nodes) g.nodes objects
            _ l.lasting;
      }

  module _ {after : List PlaneValue} {counted : List Tally} (leaves : Leaves g after counted) where
    abbrev pub theirs : List Reference
    theirs = clients g

    abbrev pub last : List NamedObject
    last = ends g

    abbrev pub first : List NamedObject
    first = starts g

    -- the values written back are the result of the run, and not virtual images
    pub record IsLeft (w : Reference × ObjectValue) : Type 0 where
      pub left : object_at last w.0 ≡ Some w.1
      pub real : (x : ObjectValue)
          → object_held objects w.0.name ≡ Some x
          → is_virtual_object x ≡ false
      pub plain : is_delay w.1 ≡ false

    -- ---- images

    theirs_once : has_twice theirs ≡ false
    theirs_once =
        once_after (virtual g) theirs
        (ap has_twice (sym (cells_parts v.steps v.virtual_outputs)) ∙ cells_once g)

    pub theirs_at : (k : ℕ) (d : Reference)
        → k < length theirs
        → plane_at g (get_or theirs k d) ≡ slots g + k
    theirs_at k d below =
        client_at g (get_or theirs k d) (In-at theirs k d below)
        ∙ ap (λ n. slots g + n) (index_at theirs k d theirs_once below)

    image_left : (w : Reference × ObjectValue)
        → In w (plane_objects theirs (drop (slots g) after))
        → IsLeft w
    image_left w i =
        let r = comes_back plane_object theirs (drop (slots g) after) no_plane w i in
        let k : ℕ = r.0 in
        let c : Reference = get_or theirs k w.0 in
        let inside : In c theirs = In-at theirs k w.0 r.1 in
        let among : In c (cells g) = client_there g c inside in
        let image : block_image (get_or (drop (slots g) after) k no_plane) ≡ image_held last c =
        ap block_image (get_or-drop (slots g) after k no_plane)
        ∙ ap (λ n. block_image (plane after n)) (sym (theirs_at k w.0 r.1))
        ∙ leaves.images c inside in
        let is_w : w ≡ (c, ImageObject (image_held last c)) =
        r.2
        ∙ ap
        (λ (a : ImageValue). let pair : Reference × ObjectValue = (c, ImageObject a) in pair)
        image in
        subst IsLeft (sym is_w)
        (record {
          left = ends_held g c among;
          real = image_real objects c (client_image g c inside);
          plain = refl;
        })

    -- ---- tallies

    -- the tally at an index, of a node that writes no image: that of the image that the node reads
    pub record IsTallied (place : ℕ) : Type 0 where
      pub node : Node
      pub inside : In node v.steps
      pub other : (parameters node.function).output ≢ kind.Image
      pub cell : Reference
      pub out : node.out1 ≡ Some cell
      pub at : (d : Reference) → get_or (tally_cells v.steps) place d ≡ cell
      pub real : (x : ObjectValue)
          → object_held objects cell.name ≡ Some x
          → is_virtual_object x ≡ false
      pub old : ObjectValue
      pub held_before : object_at objects cell ≡ Some old
      pub kind_is : object_kind old ≡ (parameters node.function).output
      pub own : tally_by (object_kind old) old ≡ tally_at (tallies_of objects v.steps) place ∷ []
      pub tallied :
          tally_at counted place
          ≡ tally_of (image_held last node.in1) (tally_at (tallies_of objects v.steps) place)

    -- each node's tally is new, and counted from it
    abbrev OwnAndCounted : ℕ → Node → Type 0
    OwnAndCounted k n =
        (node_tallies objects n ≡ tally_at (tallies_of objects v.steps) k ∷ [])
        × Counted g (tallies_of objects v.steps) counted k n

    both_each : Each OwnAndCounted 0 v.steps
    both_each =
        each_both (λ k n. node_tallies objects n ≡ tally_at (tallies_of objects v.steps) k ∷ [])
        (Counted g (tallies_of objects v.steps) counted) 0 v.steps
        (each_tally
        (λ k n. node_tallies objects n ≡ tally_at (tallies_of objects v.steps) k ∷ []) objects
        v.steps [] (tallies_of objects v.steps) refl
        (λ n k x i other own below at. own ∙ ap (λ (y : Tally). y ∷ []) (sym at)))
        leaves.counts

    pub tally_facts : (place : ℕ) → place < length (tally_cells v.steps) → IsTallied place
    tally_facts place below =
        let r = node_of OwnAndCounted v.steps 0 place both_each below in
        let n : Node = r.node in
        let out = one_output n (is_node_of g n r.inside).shape r.other in
        let c : Reference = out.0 in
        let none : 0 + place ≡ place = omega arith in
        let holds = subst (λ k. OwnAndCounted k n) none r.holds in
        let kept = tally_kept g n r.inside r.other c out.1 in
        let old = some_kind (object_at objects c) (parameters n.function).output kept.1 in
        record {
          node = n;
          inside = r.inside;
          other = r.other;
          cell = c;
          out = out.1;
          at = λ d. r.cell d ∙ ap (λ (o : Option Reference). unwrap_or o n.in1) out.1;
          real = kept.0;
          old = old.0;
          held_before = old.1;
          kind_is = old.2;
          own = own_tally objects n c old.0 _ out.1 old.1 old.2 holds.0;
          tallied = holds.1;
        }

    tally_left : (w : Reference × ObjectValue)
        → In w (tally_objects (tally_cells v.steps) counted)
        → IsLeft w
    tally_left w i =
        let back = comes_back tally_object (tally_cells v.steps) counted (tally_at [] 0) w i in
        let r : IsTallied back.0 = tally_facts back.0 back.1 in
        let n : Node = r.node in
        let read = ends_held g n.in1 (cell_there g n r.inside n.in1 (inl refl)) in
        let made : Reference × ObjectValue = (
          r.cell,
          node_output n First (ImageObject (image_held last n.in1))
              (option_and_then (object_at last) n.in2) r.old,
        ) in
        let holds : object_at last r.cell ≡ Some made.1 =
        holds_output g n r.inside First r.cell (ImageObject (image_held last n.in1)) r.old r.out
        read (first_real g r.cell r.real ∙ r.held_before) in
        let counted_as : made.1 ≡ tally_object (tally_at counted back.0) =
        tally_output n First (image_held last n.in1) (option_and_then (object_at last) n.in2)
        r.old (tally_at (tallies_of objects v.steps) back.0)
        (subst (λ (k : Kind). (k ≡ kind.Distribution) ⊎ (k ≡ kind.Extremes)) (sym r.kind_is)
        (counted_kind n.function r.other))
        r.own
        ∙ ap tally_object (sym r.tallied) in
        let is_w : w ≡ (r.cell, tally_object (tally_at counted back.0)) =
        back.2
        ∙ ap
        (λ (x : Reference). let pair : Reference
        × ObjectValue = (x, tally_object (tally_at counted back.0)) in pair)
        (r.at w.0) in
        subst IsLeft (sym is_w)
        (record {
          left = holds ∙ ap (λ (x : ObjectValue). Some x) counted_as;
          real = r.real;
          plain =
              tally_plain (tally_at counted back.0);
        })

    -- ---- all that is written back

    abbrev pub images : List (Reference × ObjectValue)
    images = plane_objects theirs (drop (slots g) after)

    abbrev pub tallies : List (Reference × ObjectValue)
    tallies = tally_objects (tally_cells v.steps) counted

    pub all_left : (w : Reference × ObjectValue) → In w (images ++ tallies) → IsLeft w
    all_left w i = elim (In-append w images tallies i) [
      | inl one ↦ image_left w one
      | inr other ↦ tally_left w other
    ]

    pub are_writes : AreWrites objects (images ++ tallies)
    are_writes w i =
        let l = all_left w i in
        record {
          form =
              ap (option_map form_of) (sym (first_real g w.0 l.real))
              ∙ sym ((solves g).forms w.0)
              ∙ ap (option_map form_of) l.left;
          whole = l.plain;
        }

    -- a virtual image that a node writes is one as an object
    virtual_object : (c : Reference)
        → In c (virtual g)
        → ((x : ObjectValue) → object_held objects c.name ≡ Some x → is_virtual_object x ≡ false)
        → ⊥
    virtual_object c i real =
        let n = virtual_by g c i in
        let found = g.ready.cells.found n.0 c (in_nodes g n.0 n.1) (named_by_output n.0 c n.2) in
        let partial_desc = declared_of_virtual (is g c) (virtual_is g c i) in
        no_virtual (object_held objects c.name) partial_desc.0 found partial_desc.1 real
      where
        no_virtual : (o : Option ObjectValue) (declared : PartialDescription)
            → option_map operand_of (option_and_then (in_slot c.slot) o)
            ≡ Some (operand_held objects c)
            → operand_held objects c ≡ Virtual declared
            → ((x : ObjectValue) → o ≡ Some x → is_virtual_object x ≡ false) → ⊥
        no_virtual None declared found as_virtual plain = cc found
        no_virtual (Some x) declared found as_virtual plain =
            let there =
            virtual_there c.slot x declared (found ∙ ap (λ (y : Operand). Some y) as_virtual) in
            let clash : true ≡ false = ap is_virtual_object (sym there.2) ∙ plain x refl in
            cc

    -- each cell that a node writes, and that is no virtual image, gets an object
    comes : (n : Node)
        → In n v.steps
        → (c : Reference)
        → In c (outputs n)
        → ((x : ObjectValue) → object_held objects c.name ≡ Some x → is_virtual_object x ≡ false)
        → (x : ObjectValue) × In (c, x) (images ++ tallies)
    comes n i c j real = elim (image_or (parameters n.function).output) [
      | inl image ↦ elim (virtual_or g c (cell_there g n i c (image_named n c image j))) [
        | inl old ↦ absurd (virtual_object c old real)
        | inr client ↦
            (let enough : length theirs ≤ length (drop (slots g) after) = omega
            (arith, length-drop (slots g) after, leaves.planes_count) in
            let x = each_comes plane_object theirs (drop (slots g) after) c enough client in
            (x.0, In-left (c, x.0) images tallies x.1))
      ]
      | inr other ↦
          (let out = one_output n (is_node_of g n i).shape other in
          let inside : In (unwrap_or n.out1 n.in1) (tally_cells v.steps) =
          tally_there v.steps n i other in
          let same : unwrap_or n.out1 n.in1 ≡ c = only_output n.out1 n.out2 out.0 out.1 out.2 j in
          let enough : length (tally_cells v.steps) ≤ length counted =
          omega (arith, leaves.tallies_count, tally_count objects v.steps) in
          let x =
          each_comes tally_object (tally_cells v.steps) counted c enough
          (subst (λ (y : Reference). In y (tally_cells v.steps)) same inside) in
          (x.0, In-right (c, x.0) images tallies x.1))
    ]
      where
        only_output : (one two : Option Reference) (d : Reference)
            → one ≡ Some d
            → two ≡ None
            → In c (optional_cells one ++ optional_cells two)
            → unwrap_or one n.in1 ≡ c
        only_output one two d is_one no_two k = grind arith

    -- ---- each cell

    labels_end : map label_of objects ≡ map label_of last
    labels_end = sym (last_labels g)

    forgotten_held : (c : Reference)
        → object_at (objects_at_end objects last) c
        ≡ option_and_then (in_slot c.slot)
        (kept_virtual (object_held objects c.name) (object_held last c.name))
    forgotten_held c =
        ap (option_and_then (in_slot c.slot)) (object_held-forgotten objects last labels_end c.name)

    -- a virtual image is as it was
    seen_virtual : (c : Reference) (x : ObjectValue)
        → object_held objects c.name ≡ Some x
        → is_virtual_object x ≡ true
        → seen (with_written objects (images ++ tallies)) c ≡ seen (objects_at_end objects last) c
    seen_virtual c x there virtual_one =
        let none : last_to c (images ++ tallies) ≡ None = last_none c (images ++ tallies) (λ w i e.
        (let real = (all_left w i).real x
        (ap (λ (d : Reference). object_held objects d.name) (sym e) ∙ there) in
        cc (virtual_one, real))) in
        let other = both_held objects last labels_end c.name x there in
        let kept : kept_virtual (object_held objects c.name) (object_held last c.name) ≡ Some x =
        rw (there, other.1, virtual_one) refl in
        seen-with_written (images ++ tallies) objects are_writes c
        ∙ ap (λ (o : Option ObjectValue). option_or (option_map shown o) (seen objects c)) none
        ∙ ap (λ (o : Option ObjectValue). option_map shown (option_and_then (in_slot c.slot) o))
        (there ∙ sym kept)
        ∙ ap (option_map shown) (sym (forgotten_held c))

    -- objects that no node writes are as before, and all others were written back
    untouched : (c : Reference)
        → ((x : ObjectValue) → object_held objects c.name ≡ Some x → is_virtual_object x ≡ false)
        → last_to c (images ++ tallies) ≡ None
        → seen objects c ≡ seen last c
    untouched c real none = elim (cases_Bool (is_written g.nodes c)) [
      | inl w ↦
          (let n = In-from_any (λ (m : Node). writes m c) g.nodes w in
          let x = comes n.0 (in_steps g n.0 n.1) c (In-from_same c (outputs n.0) n.2) real in
          absurd (last_some c x.0 (images ++ tallies) x.1 none))
      | inr w ↦ ap (option_map shown) (sym (first_real g c real)) ∙ sym (unwritten_seen g c w)
    ]

    seen_real : (c : Reference)
        → ((x : ObjectValue) → object_held objects c.name ≡ Some x → is_virtual_object x ≡ false)
        → seen (with_written objects (images ++ tallies)) c ≡ seen (objects_at_end objects last) c
    seen_real c real =
        seen-with_written (images ++ tallies) objects are_writes c
        ∙ elim
        (last_known c (object_at last c) (images ++ tallies)
        (λ w i e. ap (object_at last) e ∙ (all_left w i).left)) [
          | inl none ↦
              ap (λ (o : Option ObjectValue). option_or (option_map shown o) (seen objects c)) none
              ∙ untouched c real none
          | inr some ↦
              ap (λ (o : Option ObjectValue). option_or (option_map shown o) (seen objects c))
              some.1
              ∙ ap (option_map shown) (sym some.2)
        ]
        ∙ ap (λ (o : Option ObjectValue). option_map shown (option_and_then (in_slot c.slot) o))
        (sym (kept_real (object_held objects c.name) (object_held last c.name) real))
        ∙ ap (option_map shown) (sym (forgotten_held c))

    seen_same : (c : Reference)
        → seen (with_written objects (images ++ tallies)) c ≡ seen (objects_at_end objects last) c
    seen_same c = by_object (object_held objects c.name) refl
      where
        by_object : (o : Option ObjectValue)
            → object_held objects c.name ≡ o
            → seen (with_written objects (images ++ tallies)) c
            ≡ seen (objects_at_end objects last) c
        by_object None e = seen_real c (λ x there. absurd (cc (e, there)))
        by_object (Some y) e = elim (cases_Bool (is_virtual_object y)) [
          | inl virtual_one ↦ seen_virtual c y e virtual_one
          | inr plain ↦ seen_real c (λ x there. grind (arith, e, there, plain))
        ]

    pub returns :
        with_written objects (images ++ tallies)
        ≡ run_of_graph (resolved_operand (operand_held objects) g.nodes) g.nodes objects
    returns =
        let kept : map label_of (with_written objects (images ++ tallies)) ≡ map label_of objects =
        labels-with_written (images ++ tallies) objects in
        same_objects (with_written objects (images ++ tallies)) (objects_at_end objects last)
        (subst Rising (sym kept) (rising objects (pairs_of objects g.names)))
        (kept ∙ labels_end ∙ sym (labels-forgotten objects last labels_end)) seen_same
