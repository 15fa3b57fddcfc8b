-- A schedule stays one while the cells that its nodes name hold objects of the same skeletons.
use Rattle.std.proofs.Common.{◌≡◌, ◌≤◌, ◌+◌, ℕ, true, List, [], ◌∷◌, Option, Some, None, inl, inr, refl, sym, ap, subst, ◌∙◌, arith, option_map, option_and_then, unwrap_or}
use Rattle.graph_run.proofs.Common.{Description, Node, Kind, Reference, parameters, ObjectValue, ImageObject, new_image, U8, NamedObject, object_at, skeleton, image_value, image_held, names_cell, In, or_left, writes, Verified, IsPlan, PlanView}
use Rattle.vx_base.specs.declared.kind.Kind.TheVariants as kind
use Rattle.node_rows.specs.Radius.{matrix_in}
use Rattle.graph_verify.specs.Links.{reads}
use Rattle.graph_steps.specs.Steps.{step_radius}
use Rattle.graph_run.specs.declared.schedule.Schedule.{Schedule}
use Rattle.graph_run.specs.Program.{radius_of}
use Rattle.graph_run.specs.Schedule.{IsSchedule}
use Rattle.graph_run.specs.Tasks.{client_cells, virtual_description, graph_plane, tally_after, tasks_by, tasks_from}
use Rattle.graph_run.proofs.LinkLaws.{All-from_In, In-from_All, reads_second}
use Rattle.graph_run.proofs.ReadyLemmas.{client_by, image_operand}
use Rattle.graph_run.proofs.VerifiedLemmas.{operand_named}

-- ---- what the skeleton tells

-- a matrix
matrix_told : (o : Option ObjectValue) → matrix_in (option_map skeleton o) ≡ matrix_in o
matrix_told z0 = grind arith

-- how high an image is
height_of : Option ObjectValue → ℕ
height_of o = (image_value (unwrap_or o (ImageObject (new_image 0 0 U8)))).height

height_told : (o : Option ObjectValue) → height_of (option_map skeleton o) ≡ height_of o
unfolding height_of
height_told z0 = grind arith

-- what it tells is the same of objects of the same skeleton
told_alike : {X : Type 0} (tells : Option ObjectValue → X)
    → ((o : Option ObjectValue) → tells (option_map skeleton o) ≡ tells o)
    → (one other : Option ObjectValue)
    → option_map skeleton one ≡ option_map skeleton other
    → tells one ≡ tells other
told_alike tells told one other same = sym (told one) ∙ ap tells same ∙ told other

-- ---- tasks with the same radii

module _ (plane : Reference → ℕ) (describes : Reference → Option Description)
    (one two : Node → ℕ) where
  by_alike : (at tally : ℕ) (n : Node) (k : Kind)
      → one n ≡ two n
      → tasks_by plane describes one at tally n k ≡ tasks_by plane describes two at tally n k
  by_alike at tally n k same = grind (arith, same)

  tasks_alike : (nodes : List Node) (at tally : ℕ)
      → ((n : Node) → In n nodes → one n ≡ two n)
      → tasks_from plane describes one at tally nodes
      ≡ tasks_from plane describes two at tally nodes
  tasks_alike [] at tally same = refl
  tasks_alike (n ∷ nodes) at tally same =
      let k = (parameters n.function).output in
      rw (
        by_alike at tally n k (same n (inl refl)),
        tasks_alike nodes (at + 1) (tally_after tally k) (λ m i. same m (inr i)),
      ) refl

-- ---- schedules

module _ (before after : List NamedObject) (v : Verified) (p : PlanView)
    (plan : IsPlan v.steps v.virtual_outputs p)
    (same : (n : Node) (c : Reference)
    → In n v.steps
    → names_cell n c ≡ true
    → option_map skeleton (object_at after c) ≡ option_map skeleton (object_at before c))
  where
    radius_stays : (high : ℕ) (n : Node)
        → In n v.steps
        → radius_of before high n ≡ radius_of after high n
    radius_stays high n i =
        ap (λ m. unwrap_or (step_radius n.function m) high) (of_second n.in2 refl)
      where
        of_second : (cell : Option Reference)
            → n.in2 ≡ cell
            → matrix_in (option_and_then (object_at before) cell)
            ≡ matrix_in (option_and_then (object_at after) cell)
        of_second None e = refl
        of_second (Some c) e =
            told_alike matrix_in matrix_told (object_at before c) (object_at after c)
            (sym (same n c i (or_left (reads n c) (writes n c) (reads_second n c e))))

    height_stays : (c : Reference)
        → In c (client_cells v.steps v.virtual_outputs)
        → (image_held before c).height ≡ (image_held after c).height
    unfolding height_of
    height_stays c i =
        let n = client_by v.steps v.virtual_outputs plan.once c i in
        told_alike height_of height_told (object_at before c) (object_at after c)
        (sym (same n.0 c n.1 (operand_named n.0 (c, kind.Image) (image_operand n.0 c n.2))))

    pub schedule_stays : (s : Schedule) → IsSchedule before v p s → IsSchedule after v p s
    schedule_stays s h =
        record {
          cells = h.cells;
          tasks =
              h.tasks
              ∙ tasks_alike (graph_plane v.steps v.virtual_outputs p)
              (virtual_description v.virtual_outputs) (radius_of before s.high)
              (radius_of after s.high) v.steps 0 0 (radius_stays s.high);
          enough = h.enough;
          some = h.some;
          forward = h.forward;
          capacities = h.capacities;
          once = h.once;
          virtuals = h.virtuals;
          clients =
              All-from_In (λ (c : Reference). (image_held after c).height ≤ s.high)
              (client_cells v.steps v.virtual_outputs)
              (λ c i. subst (λ (rows : ℕ). rows ≤ s.high) (height_stays c i)
              (In-from_All (λ (d : Reference). (image_held before d).height ≤ s.high)
              (client_cells v.steps v.virtual_outputs) h.clients c i));
          tally_cells = h.tally_cells;
        }
