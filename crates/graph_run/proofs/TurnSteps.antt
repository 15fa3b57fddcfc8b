-- The tasks of a graph on whole images, one node after the other: each image becomes that of the
-- run.
use Rattle.std.proofs.Common.{◌≡◌, ◌≢◌, ℕ, ◌+◌, ◌<◌, ◌≤◌, true, false, List, [], ◌∷◌, ◌++◌, length, refl, sym, ap, subst, ◌∙◌, inl, inr, arith, Option, Some, None, ◌⊎◌, IfSome, unwrap_or, option_map, option_and_then, ◌||◌}
use Rattle.std.specs.List.{slice_get}
use Rattle.std.proofs.lemmas.List.{append_assoc}
use Rattle.std.proofs.lemmas.Option.{get_or_from_slice_get, slice_get_within}
use Rattle.graph_verify.proofs.MemberLemmas.{In-flat_map}
use Rattle.graph_run.proofs.Common.{accumulates, any-from_In, cases_Bool, cell_object, Description, description_of, false_from_ne_true, feeds, flat_map, has_twice, held_is, image_held, Image, ImageObject, ImageValue, In, In-append, In-from_flat_map, In-right, inputs, is_node_operand, is_virtual, IsImage, is_written, In-map, list_any, Missing, names_cell, operands, partial_descs, IsObject, Kind, NamedObject, Node, object_at, ObjectValue, once_after, Operand, operand_of, or_left, or_parts, or_right, Output, First, Second, outputs, parameters, Reference, same_cell-refl, same_cell-true, same-from_In, same_reference, second_kind, Verified, VirtualOutput, writes}
use Rattle.graph_verify.specs.Links.{reads}
use Rattle.graph_verify.specs.Order.{InTurn}
use Rattle.vx_base.specs.declared.kind.Kind.TheVariants as kind
use Rattle.node_rows.specs.Radius.{matrix_in}
use Rattle.graph_steps.specs.declared.step.SecondSource.TheVariants.{Table}
use Rattle.graph_steps.specs.declared.step.Step.{Step}
use Rattle.graph_steps.specs.declared.step.Task.{Task}
use Rattle.graph_steps.specs.declared.step.Task.TheVariants.{Write}
use Rattle.graph_steps.specs.declared.tally.Tally.{Tally}
use Rattle.graph_steps.specs.Program.{RunsInTurn, images_after, images_at_end}
use Rattle.graph_steps.specs.Steps.{CanMake, Covers, Suits, own_by, second_in, whole_image}
use Rattle.graph_steps.specs.Tallies.{AreTallied, IsNew, ReduceInTurn, TakesFormat, tally_at, tally_of}
use Rattle.graph_steps.proofs.BandLaws.{image_elsewhere, image_there}
use Rattle.graph_steps.proofs.TallyLaws.{new_bounded}
use Rattle.graph_run.specs.declared.schedule.Schedule.{Schedule}
use Rattle.graph_run.specs.Cells.{node_images}
use Rattle.graph_run.specs.Operands.{StandsFor}
use Rattle.graph_run.specs.Program.{node_radius, radius_of, tables_of}
use Rattle.graph_run.specs.Schedule.{CanRunBy}
use Rattle.graph_run.specs.Steps.{RunsTo}
use Rattle.graph_run.specs.Tasks.{virtual_description, source, step_for, tally_after, tasks_from}
use Rattle.graph_run.proofs.CellLemmas.{held_image}
use Rattle.graph_run.proofs.OperandLaws.{known_kept}
use Rattle.std.proofs.lemmas.List.{length-append}
use Rattle.graph_run.proofs.IndexLemmas.{once_differ}
use Rattle.graph_run.proofs.LinkLaws.{In-from_All}
use Rattle.graph_run.proofs.PlaneSteps.{IsVirtual, client_alone, client_desc, client_from, plane_at, virtual_alone, virtual_below, virtual_desc, virtual_found}
use Rattle.graph_run.proofs.ProgramLemmas.{image_named, read_cell, unfed}
use Rattle.graph_run.proofs.ProgramPlanes.{table_at}
use Rattle.graph_run.proofs.ReadyLemmas.{image_operand, operand_stands, second_operand}
use Rattle.graph_run.proofs.RunLemmas.{runs_first, runs_second}
use Rattle.graph_run.proofs.SolutionStepsEnds.{in_nodes, is, known, last_can, last_kinds, last_lasts, last_stands, first_stands}
use Rattle.graph_run.proofs.SolutionStepsImages.{cell_by, cell_there, cells, client_image, client_there, clients, described_format, ends, ends_held, ends_image, have, made, no_plane_read, one_kind, output_operand, same_image, starts, starts_client, starts_held, table_stays, virtual, virtual_by, virtual_is, virtual_or, virtual_there}
use Rattle.graph_run.proofs.SolutionStepsTasks.{image_or}
use Rattle.graph_run.proofs.TallySteps.{Each, after_image, own_image, own_other, own_tally}
use Rattle.graph_run.proofs.TaskLemmas.{in_outputs_at, node_keeps, out_at, tasks_other}
use Rattle.graph_run.proofs.VerifiedLemmas.{named_by_output, operand_named, output_known}

-- ---- radii

-- an image is no matrix
no_matrix : (found : Option ObjectValue) (operand : Operand)
    → option_map operand_of found ≡ Some operand
    → StandsFor operand kind.Image
    → matrix_in found ≡ None
no_matrix found operand e stands = grind arith

-- the radius that a node's function has covers the rows that it reads
covers_own : (rows : Option ℕ) (high : ℕ) → Covers rows (unwrap_or rows high) high
covers_own (Some rows) high = omega arith
covers_own None high = omega arith

same_desc : (d : Description) (image : ImageValue)
    → ◌≡◌ {A = Option Operand} (Some (Image d)) (Some (Image (description_of image)))
    → d ≡ description_of image
same_desc d image e = grind arith

module _ {objects : List NamedObject} {v : Verified} {s : Schedule} (g : CanRunBy objects v s) where
  abbrev pub tables : ℕ → Option ObjectValue
  tables = tables_of objects v.steps

  abbrev pub radius : Node → ℕ
  radius = radius_of objects s.high

  abbrev pub describes : Reference → Option Description
  describes = virtual_description v.virtual_outputs

  -- the image of a cell after the run
  abbrev pub whole : Reference → ImageValue
  whole c = image_held (ends g) c

  -- ---- descriptions

  known_whole : (c : Reference) → In c (cells g) → known g c ≡ Image (description_of (whole c))
  known_whole c i =
      let n = cell_by g c i in
      let found = (last_stands g).found n.0 c (in_nodes g n.0 n.1) (cell_named n.0 c n.2) in
      let e :
      ◌≡◌ {A = Option Operand} (Some (known g c)) (Some (Image (description_of (whole c)))) =
      sym found ∙ ap (option_map operand_of) (ends_held g c i) in
      cc
    where
      cell_named : (n : Node) (c : Reference) → In c (node_images n) → names_cell n c ≡ true
      cell_named n c i = operand_named n (c, kind.Image) (image_operand n c i)

  pub virtual_same : (c : Reference) (i : IsVirtual g c)
      → In c (cells g)
      → i.image.desc ≡ description_of (whole c)
  virtual_same c i j =
      same_desc i.image.desc (whole c)
      (ap (λ (o : Operand). Some o)
      (sym (output_known (is g) g.nodes v g.ready.verified i.image i.inside)
      ∙ ap (known g) i.cell
      ∙ known_whole c j))

  pub client_same : (c : Reference)
      → In c (clients g)
      → description_of (image_held objects c) ≡ description_of (whole c)
  client_same c i =
      let there : is g c ≡ Image (description_of (image_held objects c)) =
      ap (λ (o : Option ObjectValue). unwrap_or (option_map operand_of o) Missing)
      (held_image objects c (client_image g c i)) in
      let kept : known g c ≡ is g c =
      known_kept (is g c) (partial_descs (is g) g.nodes c) (ap is_virtual there) in
      same_desc (description_of (image_held objects c)) (whole c)
      (ap (λ (o : Operand). Some o) (sym there ∙ sym kept ∙ known_whole c (client_there g c i)))

  pub whole_low : (c : Reference) → In c (cells g) → (whole c).height ≤ s.high
  whole_low c i = elim (virtual_or g c i) [
    | inl j ↦
        let o = virtual_found g c j in
        let low : o.image.desc.height ≤ s.high =
        In-from_All (λ (x : VirtualOutput). x.desc.height ≤ s.high) v.virtual_outputs
        g.schedule.virtuals o.image o.inside in
        subst (λ (d : Description). d.height ≤ s.high) (virtual_same c o i) low
    | inr j ↦
        let low : (image_held objects c).height ≤ s.high =
        In-from_All (λ (d : Reference). (image_held objects d).height ≤ s.high) (clients g)
        g.schedule.clients c j in
        subst (λ (d : Description). d.height ≤ s.high) (client_same c j) low
  ]

  pub whole_is : (c : Reference) → In c (cells g) → IsImage (whole c)
  whole_is c i =
      subst (λ (o : Option ObjectValue). IfSome o IsObject) (ends_held g c i)
      (held_is (ends g) c (last_lasts g).objects)

  -- ---- the second input of a step

  module _ (n : Node) (i : In n v.steps) (at : ℕ) (there : slice_get v.steps at ≡ Some n) where
    -- the images that a step reads are those of the run
    module _ (W : ℕ → ImageValue)
        (images : (c : Reference)
        → In c (inputs n)
        → In c (node_images n)
        → W (plane_at g c) ≡ whole c)
      where
        pub second_same :
            second_in tables W (source (plane_at g) at (second_kind n) n.in2)
            ≡ option_and_then (object_at (ends g)) n.in2
        second_same = given_second n.in2 refl
          where
            by_kind : (c : Reference)
                → n.in2 ≡ Some c
                → (wanted : Kind)
                → second_kind n ≡ wanted
                → second_in tables W (source (plane_at g) at wanted (Some c)) ≡ object_at (ends g) c
            by_kind c e kind.Image k =
                let named : In c (node_images n) = inr (rw (k, e) (inl refl)) in
                let input : In c (inputs n) = inr (rw e (inl refl)) in
                ap (λ (a : ImageValue). Some (ImageObject a)) (images c input named)
                ∙ sym (ends_held g c (cell_there g n i c named))
            by_kind c e other k =
                let table : second_kind n ≢ kind.Image = λ image. (cc (k, image)) in
                table_at objects v.steps at n (slice_get_within v.steps at n there)
                (get_or_from_slice_get v.steps at n n there)
                ∙ no_plane_read (second_kind n) (option_and_then (object_at objects) n.in2) table
                ∙ ap (option_and_then (object_at objects)) e
                ∙ sym (table_stays g n i c e table)

            given_second : (o : Option Reference)
                → n.in2 ≡ o
                → second_in tables W (source (plane_at g) at (second_kind n) o)
                ≡ option_and_then (object_at (ends g)) o
            given_second None e = refl
            given_second (Some c) e = by_kind c e (second_kind n) refl

    table_is : (k : ℕ)
        → source (plane_at g) at (second_kind n) n.in2 ≡ Table k
        → IfSome (tables k) IsObject
    table_is k e = given_second n.in2 refl (second_kind n) refl e
      where
        given_second : (o : Option Reference)
            → n.in2 ≡ o
            → (wanted : Kind)
            → second_kind n ≡ wanted
            → source (plane_at g) at wanted o ≡ Table k
            → IfSome (tables k) IsObject
        given_second None f wanted w e = absurd (cc e)
        given_second (Some c) f kind.Image w e = absurd (cc e)
        given_second (Some c) f other w e =
            let same : at ≡ k = cc in
            let table : second_kind n ≢ kind.Image = λ image. (cc (w, image)) in
            let is_table : tables at ≡ object_at objects c =
            table_at objects v.steps at n (slice_get_within v.steps at n there)
            (get_or_from_slice_get v.steps at n n there)
            ∙ no_plane_read (second_kind n) (option_and_then (object_at objects) n.in2) table
            ∙ ap (option_and_then (object_at objects)) f in
            rw (← same, is_table) (held_is objects c g.are)

    -- the matrix is that of the table before the run
    matrix_same :
        matrix_in (option_and_then (object_at (ends g)) n.in2)
        ≡ matrix_in (option_and_then (object_at objects) n.in2)
    matrix_same = given_second n.in2 refl
      where
        given_second : (o : Option Reference)
            → n.in2 ≡ o
            → matrix_in (option_and_then (object_at (ends g)) o)
            ≡ matrix_in (option_and_then (object_at objects) o)
        given_second None e = refl
        given_second (Some c) e = elim (image_or (second_kind n)) [
          | inl image ↦
              let operand : In (c, second_kind n) (operands n) = second_operand n c e in
              let named : In c (node_images n) = inr (rw (image, e) (inl refl)) in
              let stands : StandsFor (is g c) kind.Image =
              subst (StandsFor (is g c)) image
              (operand_stands objects g.nodes v g.ready n i (c, second_kind n) operand) in
              ap matrix_in (ends_held g c (cell_there g n i c named))
              ∙ sym
              (no_matrix (object_at objects c) (is g c)
              (g.ready.cells.found n c (in_nodes g n i)
              (operand_named n (c, second_kind n) operand))
              stands)
          | inr other ↦ ap matrix_in (table_stays g n i c e other)
        ]

    -- ---- a step

    module _ (which : Output) (c : Reference) (output : out_at n which ≡ Some c)
        (image : (parameters n.function).output ≡ kind.Image) where
      abbrev step : Step
      step = step_for (plane_at g) describes radius at n which c

      written : In c (outputs n)
      written = in_outputs_at n which c output

      pub among : In c (cells g)
      among = cell_there g n i c (image_named n c image written)

      runs : RunsTo (ends g) n c
      runs = by_which which output
        where
          by_which : (which : Output) → out_at n which ≡ Some c → RunsTo (ends g) n c
          by_which First e =
              subst (λ o. IfSome o (RunsTo (ends g) n)) e
              (runs_first n (ends g) (last_lasts g).objects (last_can g n i))
          by_which Second e =
              subst (λ o. IfSome o (RunsTo (ends g) n)) e
              (runs_second n (ends g) (last_lasts g).objects (last_can g n i))

      own_whole : cell_object (ends g) c ≡ ImageObject (whole c)
      own_whole = grind (arith, ends_held g c among)

      makes :
          CanMake step (whole n.in1) (option_map (cell_object (ends g)) n.in2)
          (description_of (whole c))
      makes = grind (arith, own_whole, runs)

      second_held :
          option_map (cell_object (ends g)) n.in2 ≡ option_and_then (object_at (ends g)) n.in2
      second_held = grind (arith, runs)

      module _ (W : ℕ → ImageValue)
          (images : (c : Reference)
          → In c (inputs n)
          → In c (node_images n)
          → W (plane_at g c) ≡ whole c)
          (own : (IsVirtual g c) ⊎ (In c (clients g) × (W (plane_at g c) ≡ image_held objects c)))
        where
          abbrev before : ImageValue
          before = own_by (describes c) (W (plane_at g c))

          own_desc : description_of before ≡ description_of (whole c)
          own_desc = elim own [
            | inl o ↦ rw (virtual_desc g c o) (virtual_same c o among)
            | inr (client, now) ↦ rw (client_desc g c client, now) (client_same c client)
          ]

          first_is : W (plane_at g n.in1) ≡ whole n.in1
          first_is = images n.in1 (inl refl) (inl refl)

          second_is :
              second_in tables W (source (plane_at g) at (second_kind n) n.in2)
              ≡ option_and_then (object_at (ends g)) n.in2
          second_is = second_same W images

          pub step_suits : Suits tables s.high step W
          step_suits = record {
            makes =
                rw (first_is, second_is, own_desc)
                (subst (λ o. CanMake step (whole n.in1) o (description_of (whole c)))
                second_held makes);
            table = table_is;
            near =
                rw (second_is, matrix_same) (covers_own (node_radius objects n) s.high);
            tall = λ k read.
                let x = read_cell (plane_at g) describes radius n at which c k read in
                subst (λ m. (W m).height ≤ s.high) (sym x.3)
                (rw (images x.0 x.1 x.2) (whole_low x.0 (cell_there g n i x.0 x.2)));
          }

          -- the output before the step has the format of the image at the start of the run; where
          -- the
          -- node accumulates, it is that image
          own_begins :
              (before ≡ image_held (starts g) c)
              ⊎
              ((before.format ≡ (image_held (starts g) c).format)
              × (accumulates n.function ≡ false))
          own_begins = elim own [
            | inl o ↦ inr (
              rw (virtual_desc g c o) (start_format o),
              false_from_ne_true (accumulates n.function) (λ adds.
                  let none = (have g).adds n i adds c written in
                  cc (virtual_is g c (virtual_in o), none)),
            )
            | inr (client, now) ↦
                inl (rw (client_desc g c client, now, starts_client g c client) refl)
          ]
            where
              virtual_in : IsVirtual g c → In c (virtual g)
              virtual_in o =
                  subst (λ (d : Reference). In d (virtual g)) o.cell
                  (In-map (λ (x : VirtualOutput). x.cell) o.image v.virtual_outputs o.inside)

              start_format : (o : IsVirtual g c)
                  → o.image.desc.format ≡ (image_held (starts g) c).format
              start_format o =
                  let found =
                  (first_stands g).found n c (in_nodes g n i) (named_by_output n c written) in
                  described_format (image_held (starts g) c) o.image.desc
                  (ap (option_map operand_of) (sym (starts_held g c among)) ∙ found
                  ∙ ap (λ (x : Operand). Some x)
                  (sym (ap (known g) o.cell)
                  ∙ output_known (is g) g.nodes v g.ready.verified o.image o.inside))

          pub step_makes : whole_image tables step W ≡ whole c
          step_makes =
              rw (first_is, second_is)
              (same_image n which (whole n.in1) before (image_held (starts g) c)
              (option_and_then (object_at (ends g)) n.in2) own_begins
              ∙ sym (made g n i which c output among))

  -- ---- the images in planes, while nodes are still to run

  -- `left` has the outputs that are still to be written
  pub record Current (nodes : List Node) (left : List Reference) (W : ℕ → ImageValue) : Type 0 where
    pub client : (c : Reference)
        → In c (clients g)
        → (In c left → W (plane_at g c) ≡ image_held objects c)
        × ((In c left → ⊥) → W (plane_at g c) ≡ whole c)
    pub virtual_image : (c : Reference)
        → In c (virtual g)
        → (In c left → ⊥)
        → is_node_operand nodes c ≡ true
        → W (plane_at g c) ≡ whole c

  -- a reduction takes its image's format, and its tally is new
  pub record Takes (old : List Tally) (k : ℕ) (n : Node) : Type 0 where
    pub below : k < length old
    pub format : TakesFormat (whole n.in1).format (tally_at old k)
    pub new : IsNew (tally_at old k)

  -- a tally is that of a node's first input
  abbrev pub Counted : List Tally → List Tally → ℕ → Node → Type 0
  Counted old counted k n = tally_at counted k ≡ tally_of (whole n.in1) (tally_at old k)

  -- what the tasks of these nodes do, the first of which has the tally at an index
  pub record Does (first : ℕ) (nodes : List Node) (tasks : List Task) (W : ℕ → ImageValue) :
      Type 0 where
    pub runs : RunsInTurn tables s.high tasks W
    pub ends_with : (c : Reference)
        → In c (clients g)
        → images_at_end tables tasks W (plane_at g c) ≡ whole c
    pub reduces : (old : List Tally)
        → Each (Takes old) first nodes
        → ReduceInTurn tables 0 tasks W old
    pub counts : (old counted : List Tally)
        → AreTallied tables tasks W old counted
        → Each (Counted old counted) first nodes

  module _ (before after : List Node) (n : Node) (parts : v.steps ≡ before ++ n ∷ after)
      (turn : (m : Node) → In m (n ∷ after) → feeds m n ≡ false) where
    inside : In n v.steps
    inside = subst (In n) (sym parts) (In-right n before (n ∷ after) (inl refl))

    abbrev Within : List Reference → Type 0
    Within left = (c : Reference) → In c left → (m : Node) × In m (n ∷ after) × In c (outputs m)

    -- the images that the node reads
    input_whole : (left : List Reference)
        → Within left
        → (W : ℕ → ImageValue)
        → Current (n ∷ after) left W
        → (c : Reference)
        → In c (inputs n)
        → In c (node_images n)
        → W (plane_at g c) ≡ whole c
    input_whole left within W now c input named =
        let absent : In c left → ⊥ =
        λ j. (let m = within c j in unfed m.0 n c c (turn m.0 m.1) m.2 input refl) in
        elim (virtual_or g c (cell_there g n inside c named)) [
          | inl virtual_one ↦
              now.virtual_image c virtual_one absent
              (or_left (reads n c || writes n c) (is_node_operand after c)
              (or_left (reads n c) (writes n c) (same-from_In c (inputs n) input)))
          | inr client ↦ (now.client c client).1 absent
        ]

    module _ (at : ℕ) (there : slice_get v.steps at ≡ Some n)
        (image : (parameters n.function).output ≡ kind.Image) where
      -- one output is written
      module _ (which : Output) (c : Reference) (output : out_at n which ≡ Some c)
          (left : List Reference)
          (has : (d : Reference) → In d (flat_map outputs after) → In d left)
          (within : Within (c ∷ left))
          (once : has_twice (c ∷ left) ≡ false) (W : ℕ → ImageValue)
          (now : Current (n ∷ after) (c ∷ left) W) where
        abbrev st : Step
        st = step_for (plane_at g) describes radius at n which c

        abbrev next : ℕ → ImageValue
        next = images_after tables (Write st) W

        c_there : In c (cells g)
        c_there = among n inside at there which c output image

        c_written : In c (outputs n)
        c_written = in_outputs_at n which c output

        c_not_left : In c left → ⊥
        c_not_left j =
            let h = or_parts (list_any (same_reference c) left) (has_twice left) once in
            once_differ c left c h.0 j refl

        images : (d : Reference)
            → In d (inputs n)
            → In d (node_images n)
            → W (plane_at g d) ≡ whole d
        images = input_whole (c ∷ left) within W now

        own : (IsVirtual g c) ⊎ (In c (clients g) × (W (plane_at g c) ≡ image_held objects c))
        own = elim (virtual_or g c c_there) [
          | inl i ↦ inl (virtual_found g c i)
          | inr i ↦ inr (i, (now.client c i).0 (inl refl))
        ]

        pub suits_now : Suits tables s.high st W
        suits_now = step_suits n inside at there which c output image W images own

        next_there : next (plane_at g c) ≡ whole c
        next_there =
            image_there (plane_at g c) (whole_image tables st W) W
            ∙ step_makes n inside at there which c output image W images own

        next_elsewhere : (k : ℕ) → k ≢ plane_at g c → next k ≡ W k
        next_elsewhere k other = image_elsewhere (plane_at g c) (whole_image tables st W) W k other

        same_or_not : (a b : Reference) → (a ≡ b) ⊎ (a ≢ b)
        same_or_not a b = elim (cases_Bool (same_reference a b)) [
          | inl e ↦ inl (same_cell-true a b e)
          | inr e ↦
              inr
              (λ same. let here = same_cell-refl b in let absent = ap
              (λ (x : Reference). same_reference x b) (sym same) ∙ e in cc)
        ]

        -- another virtual image that is in use has another plane
        virtual_apart : (d : Reference)
            → In d (virtual g)
            → d ≢ c
            → (In d left → ⊥)
            → is_node_operand (n ∷ after) d ≡ true
            → plane_at g d ≢ plane_at g c
        virtual_apart d i other absent used same = elim (virtual_or g c c_there) [
          | inl j ↦
              other
              (virtual_alone g before after n parts c d j i c_written
              (written_so_far (virtual_by g d i)) used same)
          | inr j ↦ (let low = virtual_below g d i in let from = client_from g c j in omega arith)
        ]
          where
            written_so_far :
                (m : Node)
                × In m v.steps
                × In d (outputs m)
                × ((parameters m.function).output ≡ kind.Image)
                → (is_written before d || writes n d) ≡ true
            written_so_far m = elim (In-append m.0 before (n ∷ after) (subst (In m.0) parts m.1)) [
              | inl early ↦
                  or_left (is_written before d) (writes n d)
                  (any-from_In (λ x. writes x d) m.0 before early
                  (same-from_In d (outputs m.0) m.2))
              | inr (inl e) ↦
                  or_right (is_written before d) (writes n d)
                  (subst (λ (x : Node). writes x d ≡ true) e (same-from_In d (outputs m.0) m.2))
              | inr (inr late) ↦ absurd (absent (has d (In-flat_map outputs m.0 d after late m.2)))
            ]

        pub current_next : Current (n ∷ after) left next
        current_next = record {
          client = λ d i. elim (same_or_not d c) [
            | inl e ↦ (
              (λ j. absurd (c_not_left (subst (λ (x : Reference). In x left) e j))),
              (λ absent. rw e next_there),
            )
            | inr other ↦
                let apart : plane_at g d ≢ plane_at g c =
                λ same. other (sym (client_alone g c d c_there i (sym same))) in
                let stays = next_elsewhere (plane_at g d) apart in
                let was = now.client d i in (
                  (λ j. stays ∙ was.0 (inr j)),
                  (λ absent. stays ∙ was.1 (λ j. elim j [ inl e ↦ other e | inr k ↦ absent k ])),
                )
          ];
          virtual_image = λ d i absent used. elim (same_or_not d c) [
            | inl e ↦ rw e next_there
            | inr other ↦
                next_elsewhere (plane_at g d) (virtual_apart d i other absent used)
                ∙ now.virtual_image d i (λ j. elim j [ inl e ↦ other e | inr k ↦ absent k ]) used
          ];
        }

  -- the next node has run
  fewer : (n : Node) (after : List Node) (left : List Reference) (W : ℕ → ImageValue)
      → Current (n ∷ after) left W
      → Current after left W
  fewer n after left W now = record {
    client = now.client;
    virtual_image =
        λ c i absent used. now.virtual_image c i absent
        (or_right (reads n c || writes n c) (is_node_operand after c) used);
  }

  -- a node that writes no image
  no_image : (n : Node) (i : In n v.steps) (after : List Node) (W : ℕ → ImageValue)
      → (parameters n.function).output ≢ kind.Image
      → Current (n ∷ after) (outputs n ++ flat_map outputs after) W
      → Current after (flat_map outputs after) W
  no_image n i after W other now = record {
    client = λ c j. (
      (λ k. (now.client c j).0 (In-right c (outputs n) (flat_map outputs after) k)),
      (λ absent. (now.client c j).1
          (λ k. elim (In-append c (outputs n) (flat_map outputs after) k)
          [ inl own ↦ no_output c (client_there g c j) own | inr rest ↦ absent rest ])),
    );
    virtual_image = λ c j absent used.
        now.virtual_image c j
        (λ k. elim (In-append c (outputs n) (flat_map outputs after) k)
        [ inl own ↦ no_output c (virtual_there g c j) own | inr rest ↦ absent rest ])
        (or_right (reads n c || writes n c) (is_node_operand after c) used);
  }
    where
      no_output : (c : Reference) → In c (cells g) → In c (outputs n) → ⊥
      no_output c among output =
          other
          (one_kind (object_at (ends g) c) (parameters n.function).output kind.Image
          (last_kinds g n i (c, (parameters n.function).output) (output_operand n c output))
          (ends_image g c among))

  -- ---- all nodes

  abbrev Task_list : ℕ → ℕ → List Node → List Task
  Task_list at first nodes = tasks_from (plane_at g) describes radius at first nodes

  -- what is to be shown of the rest of a node's tasks and of all later ones
  abbrev Rest : Node → List Node → ℕ → List Reference → List Task → Type 0
  Rest n after first left tasks =
      ((d : Reference) → In d (flat_map outputs after) → In d left)
      × ((d : Reference) → In d left → (m : Node) × In m (n ∷ after) × In d (outputs m))
      ×
      (has_twice left ≡ false
      → (X : ℕ → ImageValue)
      → Current (n ∷ after) left X
      → Does first after tasks X)

  -- the tasks of a node and of those after it
  does_node : (before : List Node) (n : Node) (after : List Node) (first : ℕ)
      → v.steps ≡ before ++ n ∷ after
      → ((m : Node) → In m (n ∷ after) → feeds m n ≡ false)
      → has_twice (flat_map outputs (n ∷ after)) ≡ false
      → (W : ℕ → ImageValue)
      → Current (n ∷ after) (flat_map outputs (n ∷ after)) W
      →
      ((X : ℕ → ImageValue) → Current after (flat_map outputs after) X → Does
      (tally_after first (parameters n.function).output) after
      (Task_list (length before + 1) (tally_after first (parameters n.function).output) after)
      X)
      → Does first (n ∷ after) (Task_list (length before) first (n ∷ after)) W
  does_node before n after first parts turn once W now rest =
      elim (image_or (parameters n.function).output) [
        | inl image ↦ does_image image
        | inr other ↦ does_other other
      ]
    where
      inside_n : In n v.steps
      inside_n = subst (In n) (sym parts) (In-right n before (n ∷ after) (inl refl))

      there : slice_get v.steps (length before) ≡ Some n
      there = ap (λ l. slice_get l (length before)) parts ∙ first_at before
        where
          first_at : (l : List Node) → slice_get (l ++ n ∷ after) (length l) ≡ Some n
          first_at [] = refl
          first_at (m ∷ l) = first_at l

      base :
          Rest n after (tally_after first (parameters n.function).output)
          (flat_map outputs after)
          (Task_list (length before + 1) (tally_after first (parameters n.function).output) after)
      base = (
        (λ d i. i),
        (λ d i. let m = In-from_flat_map outputs d after i in (m.0, inr m.1, m.2)),
        (λ one X cur. rest X (fewer n after (flat_map outputs after) X cur)),
      )

      does_image : (parameters n.function).output ≡ kind.Image
          → Does first (n ∷ after) (Task_list (length before) first (n ∷ after)) W
      does_image image =
          let all =
          node_keeps (plane_at g) describes radius
          (Rest n after (tally_after first (parameters n.function).output)) (length before)
          first n (parameters n.function).output (flat_map outputs after)
          (Task_list (length before + 1) (tally_after first (parameters n.function).output) after)
          write (λ other. absurd (other image)) base in
          let d = all.2 once W now in
          let same = after_image first (parameters n.function).output image in
          record {
            runs = d.runs;
            ends_with = d.ends_with;
            reduces = λ old each. d.reduces old each.1;
            counts =
                λ old counted t. (
                  own_image (Counted old counted) first n (parameters n.function).output image,
                  d.counts old counted t,
                );
          }
        where
          write : (parameters n.function).output ≡ kind.Image
              → (which : Output) (c : Reference)
              → out_at n which ≡ Some c
              → (left : List Reference) (tasks : List Task)
              → Rest n after (tally_after first (parameters n.function).output) left tasks
              → Rest n after (tally_after first (parameters n.function).output) (c ∷ left)
              (Write (step_for (plane_at g) describes radius (length before) n which c) ∷ tasks)
          write image which c output left tasks p =
              let within : (d : Reference)
              → In d (c ∷ left)
              → (m : Node) × In m (n ∷ after) × In d (outputs m) =
              λ d i. elim i [
                | inl e ↦ (
                  n,
                  inl refl,
                  subst (λ (x : Reference). In x (outputs n)) (sym e)
                      (in_outputs_at n which c output),
                )
                | inr j ↦ p.1 d j
              ] in (
                (λ d i. inr (p.0 d i)),
                within,
                (λ one X cur.
                    let left_once =
                    (or_parts (list_any (same_reference c) left) (has_twice left) one).1 in
                    let next =
                    current_next before after n parts turn (length before) there image which c
                    output left p.0 within one X cur in
                    let suits =
                    suits_now before after n parts turn (length before) there image which c
                    output left p.0 within one X cur in
                    let d = p.2 left_once _ next in
                    record {
                      runs = (suits, d.runs);
                      ends_with = d.ends_with;
                      reduces = d.reduces;
                      counts = d.counts;
                    }),
              )

      does_other : (parameters n.function).output ≢ kind.Image
          → Does first (n ∷ after) (Task_list (length before) first (n ∷ after)) W
      does_other other =
          let later =
          Task_list (length before + 1) (tally_after first (parameters n.function).output) after in
          let d = rest W (no_image n inside_n after W other now) in
          let read = input_whole before after n parts turn (outputs n ++ flat_map outputs after)
          (λ e i. elim (In-append e (outputs n) (flat_map outputs after) i) [
            | inl j ↦ (n, inl refl, j)
            | inr j ↦
                (let m = In-from_flat_map outputs e after j in (m.0, inr m.1, m.2))
          ])
          W now n.in1 (inl refl) (inl refl) in
          let among = cell_there g n inside_n n.in1 (inl refl) in
          subst (λ l. Does first (n ∷ after) (l ++ later) W)
          (sym
          (tasks_other (plane_at g) describes radius (length before) first n
          (parameters n.function).output other))
          (record {
            runs = (rw read (whole_is n.in1 among), rw read (whole_low n.in1 among), d.runs);
            ends_with = d.ends_with;
            reduces = λ old each. (
              (let t = own_tally (Takes old) first n (parameters n.function).output other each.0 in
                  record {
                    tally = t.below;
                    format = rw read t.format;
                    bounded = new_bounded
                        (tally_at old first) t.new;
                  }),
              d.reduces old each.1,
            );
            counts = λ old counted t. (
              own_other (Counted old counted) first n (parameters n.function).output other
                  (t.0 ∙ ap (λ i. tally_of i (tally_at old first)) read),
              d.counts old counted t.1,
            );
          })

  pub all_do : (before nodes : List Node) (first : ℕ)
      → v.steps ≡ before ++ nodes
      → InTurn feeds nodes
      → has_twice (flat_map outputs nodes) ≡ false
      → (W : ℕ → ImageValue)
      → Current nodes (flat_map outputs nodes) W
      → Does first nodes (Task_list (length before) first nodes) W
  all_do before [] first parts turn once W now =
      record {
        runs = tt;
        ends_with = λ c i. (now.client c i).1 (λ j. absurd j);
        reduces = λ old each. tt;
        counts = λ old counted t. tt;
      }
  all_do before (n ∷ after) first parts turn once W now =
      let k : Kind = (parameters n.function).output in
      let next_length : length (before ++ n ∷ []) ≡ length before + 1 =
      length-append before (n ∷ []) in
      does_node before n after first parts turn.0 once W now (λ X cur.
      subst
      (λ at. Does (tally_after first k) after (Task_list at (tally_after first k) after) X)
      next_length
      (all_do (before ++ n ∷ []) after (tally_after first k)
      (parts ∙ sym (append_assoc before (n ∷ []) after)) turn.1
      (once_after (outputs n) (flat_map outputs after) once) X cur))
