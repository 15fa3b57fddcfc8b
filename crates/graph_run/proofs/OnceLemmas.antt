-- A node by itself: what it reads and writes in a table.
use Rattle.std.proofs.Common.{◌≡◌, ◌≢◌, ◌⊎◌, List, [], ◌∷◌, Option, Some, refl, sym, ap, subst, ◌∙◌, arith, All, IfSome, option_map}
use Rattle.graph_run.proofs.Common.{First, Second, Output, Kind, Node, Reference, parameters, ImageValue, ImageObject, ObjectValue, IsObject, description_of, object_kind, node_image, second_or_output, written_by, Context, with_objects, NamedObject, object_at, with_object, with_written, cell_object, image_held, HoldsImage, IsStrictlyIncreasing, names_of, Lasts, RunsTo, with_output_object, CanRunNow}
use Rattle.vx_base.specs.declared.kind.Kind.TheVariants as kind
use Rattle.vx_base.specs.Outputs.{node_output}
use Rattle.object_table.specs.Object.{image_value}
use Rattle.graph_steps.specs.declared.tally.Tally.{Tally}
use Rattle.graph_steps.specs.Planes.{IsWhole, PlaneValue, block_image}
use Rattle.graph_steps.specs.Steps.{CanMake, lent_step}
use Rattle.graph_steps.specs.Tallies.{tally_of}
use Rattle.graph_run.specs.Bind.{image_plane, without_samples}
use Rattle.graph_run.specs.Bound.{IsTallyFor}
use Rattle.graph_run.specs.Program.{tally_by}
use Rattle.graph_run.specs.Results.{tally_object}
use Rattle.graph_run.specs.Steps.{HasInputs, output_of}
use Rattle.graph_run.proofs.CellLemmas.{elsewhere, image_after, object_after, object_elsewhere, object_if_elsewhere, there_is, with_object_twice}
use Rattle.graph_steps.proofs.KernelLaws.{whole_takes}
use Rattle.graph_run.proofs.RunLemmas.{Lasts-outputs, runs_first, runs_then, written_is}
use Rattle.graph_run.proofs.SolutionStepsReturns.{counted_kind, tally_output}
use Rattle.graph_run.proofs.SolutionStepsTaken.{tally_for}

-- ---- both outputs

module _ (t : Context) (n : Node) (are : All (λ o. IsObject o.object) t.objects)
    (can : CanRunNow t.objects n) (between : Context)
    (one : between ≡ with_objects t (with_output_object t.objects n First n.out1)) where
  -- after the first output
  pub runs_next : IfSome n.out2 (RunsTo between.objects n)
  runs_next =
      subst (λ (b : Context). IfSome n.out2 (RunsTo b.objects n)) (sym one)
      (runs_then n t.objects are can)

  -- and after the second
  module _ (after : Context)
      (two : after ≡ with_objects between (with_output_object between.objects n Second n.out2))
    where
      both :
          after
          ≡ with_objects t
          (with_output_object (with_output_object t.objects n First n.out1) n Second n.out2)
      both =
          two
          ∙ ap (λ (b : Context). with_objects b (with_output_object b.objects n Second n.out2)) one

      pub both_written :
          after ≡ with_objects t (with_written t.objects (written_by n (object_at t.objects)))
      both_written = both ∙ ap (with_objects t) (sym (written_is n t.objects are can))

      pub both_last : IsStrictlyIncreasing (names_of t.objects) → Lasts t.objects after.objects
      both_last names =
          subst (λ (b : Context). Lasts t.objects b.objects) (sym both)
          (Lasts-outputs n t.objects are can names)

pub ruleset both_outputs = (runs_first, runs_next, both_written, both_last)

-- ---- inputs

pub reads : (objects : List NamedObject) (n : Node) (output : Reference)
    → RunsTo objects n output
    → HasInputs objects n
reads objects n output h = grind arith

-- ---- an output that is an image

module _ (t : Context) (n : Node) (which : Output) (output : Reference)
    (h : RunsTo t.objects n output) (is_image : (parameters n.function).output ≡ kind.Image) where
  abbrev own : ImageValue
  own = image_held t.objects output

  own_is : cell_object t.objects output ≡ ImageObject own
  own_is = grind (arith, h.runs.out_kind)

  first_is : cell_object t.objects n.in1 ≡ ImageObject (image_held t.objects n.in1)
  first_is = grind (arith, h.runs.first_kind)

  pub image_there : HoldsImage t.objects output
  image_there = ap (option_map object_kind) (there_is t.objects output h.out ∙ ap Some own_is)

  -- while its samples are in a plane
  module _ (left : Context)
      (taken : left
      ≡ with_objects t (with_object t.objects output (ImageObject (without_samples own))))
    where
      first_same : cell_object left.objects n.in1 ≡ cell_object t.objects n.in1
      first_same =
          ap (λ (c : Context). cell_object c.objects n.in1) taken
          ∙ object_elsewhere t.objects output n.in1 (ImageObject (without_samples own)) h.in1_apart

      second_same :
          option_map (cell_object left.objects) n.in2 ≡ option_map (cell_object t.objects) n.in2
      second_same =
          ap (λ (c : Context). option_map (cell_object c.objects) n.in2) taken
          ∙ object_if_elsewhere t.objects output n.in2 (ImageObject (without_samples own))
          h.in2_apart

      pub inputs_left : HasInputs left.objects n
      inputs_left = grind (arith, reads, elsewhere, first_same, second_same)

      pub image_left : HoldsImage left.objects output
      image_left =
          subst (λ (c : Context). HoldsImage c.objects output) (sym taken)
          (image_after t.objects output image_there (without_samples own))

      module _ (p : PlaneValue) (is : p ≡ image_plane own) where
        pub output_can :
            CanMake (lent_step n which) (image_held left.objects n.in1)
            (option_map (cell_object left.objects) n.in2) p.desc
        output_can = grind (arith, first_same, second_same, own_is)

        pub plane_whole : IsWhole p
        plane_whole = grind (arith, own_is)

        pub desc_left : p.desc ≡ description_of (image_held left.objects output)
        desc_left = grind (arith, object_after, image_there)

        -- once the plane is written and its image is back
        module _ (q : PlaneValue)
            (made : block_image q ≡ node_image n which p.desc.format
            (image_held left.objects n.in1)
            (second_or_output n (option_map (cell_object left.objects) n.in2)
            (ImageObject (block_image p))))
          where
            abbrev second : Option ObjectValue
            second = option_map (cell_object t.objects) n.in2

            output_is :
                output_of t.objects n which output
                ≡ ImageObject
                (node_image n which own.format (image_held t.objects n.in1)
                (second_or_output n second (ImageObject own)))
            output_is =
                ap (λ o. node_output n which o second (cell_object t.objects output)) first_is
                ∙ ap (node_output n which (ImageObject (image_held t.objects n.in1)) second) own_is

            made_is : ImageObject (block_image q) ≡ output_of t.objects n which output
            made_is =
                ap ImageObject (made
                ∙ ap
                (λ (x : PlaneValue). node_image n which x.desc.format
                (image_held left.objects n.in1)
                (second_or_output n (option_map (cell_object left.objects) n.in2)
                (ImageObject (block_image x))))
                is
                ∙ ap
                (λ o. node_image n which own.format (image_value o)
                (second_or_output n (option_map (cell_object left.objects) n.in2)
                (ImageObject own)))
                first_same
                ∙ ap
                (λ s. node_image n which own.format (image_held t.objects n.in1)
                (second_or_output n s (ImageObject own)))
                second_same)
                ∙ sym output_is

            pub image_back : (back : Context)
                → back
                ≡ with_objects left (with_object left.objects output (ImageObject (block_image q)))
                → back ≡ with_objects t (with_output_object t.objects n which (Some output))
            image_back back put =
                put
                ∙ ap
                (λ (l : Context). with_objects l
                (with_object l.objects output (ImageObject (block_image q))))
                taken
                ∙ ap (with_objects t)
                (with_object_twice t.objects output (ImageObject (without_samples own))
                (block_image q))
                ∙ ap (λ o. with_objects t (with_object t.objects output o)) made_is

pub ruleset image_output =
    (image_there, inputs_left, image_left, plane_whole, desc_left, whole_takes)

-- ---- an output that is a tally

module _ (before : Context) (n : Node) (output : Reference) (h : RunsTo before.objects n output)
    (k : Kind) (wanted : (parameters n.function).output ≡ k) (other : k ≢ kind.Image) where
  abbrev objects : List NamedObject
  objects = before.objects

  abbrev a : ImageValue
  a = image_held objects n.in1

  own_kind : object_kind (cell_object objects output) ≡ k
  own_kind = h.runs.out_kind ∙ wanted

  module _ (t : Tally) (new : tally_by k (cell_object objects output) ≡ t ∷ []) where
    of_own :
        (object_kind (cell_object objects output) ≡ kind.Distribution)
        ⊎ (object_kind (cell_object objects output) ≡ kind.Extremes)
    of_own =
        subst (λ (x : Kind). (x ≡ kind.Distribution) ⊎ (x ≡ kind.Extremes))
        (sym h.runs.out_kind) (counted_kind n.function (λ e. other (sym wanted ∙ e)))

    new_own :
        tally_by (object_kind (cell_object objects output)) (cell_object objects output) ≡ t ∷ []
    new_own = ap (λ (x : Kind). tally_by x (cell_object objects output)) own_kind ∙ new

    pub is_for : IsTallyFor objects output (tally_of a t)
    is_for =
        tally_for objects output (cell_object objects output) a t (tally_of a t)
        (there_is objects output h.out) of_own new_own refl

    pub tally_written : (which : Output)
        → tally_object (tally_of a t) ≡ output_of objects n which output
    tally_written which = grind (arith, tally_output, of_own, new_own)
