-- A graph that runs by its schedule: what its images and tallies need on their way out of a table
-- and back.
use Rattle.std.proofs.Common.{◌≡◌, ℕ, ◌≤◌, List, ◌++◌, length, map, drop, take, sym, ap, subst, ◌∙◌, arith, Option}
use Rattle.std.proofs.lemmas.List.{length-map, map-append}
use Rattle.std.proofs.Math.Seq.{take-append_seam}
use Rattle.graph_run.proofs.Common.{In, ObjectValue, Reference, NamedObject, Node, with_written, Verified, planned_capacities, resolved_operand, operand_held, run_of_graph, Format}
use Rattle.pixel_pool.specs.Block.{BlockValue}
use Rattle.graph_steps.specs.declared.step.Task.{Task}
use Rattle.graph_steps.specs.declared.tally.Tally.{Tally}
use Rattle.graph_steps.specs.Planes.{PlaneValue, block_image, block_images, plane, IsWhole}
use Rattle.graph_steps.specs.Program.{IsClients, IsProgram, images_at_end}
use Rattle.graph_steps.specs.Runs.{CanReduceBand}
use Rattle.graph_steps.specs.Steps.{capacities}
use Rattle.graph_steps.specs.Tallies.{AreNew, AreTallied}
use Rattle.graph_run.specs.declared.schedule.Schedule.{Schedule}
use Rattle.graph_run.specs.Bind.{AreAllApart, HoldImages, image_planes}
use Rattle.graph_run.specs.Blocks.{band_plan, block_size, lent_size}
use Rattle.graph_run.specs.Bound.{LendTables}
use Rattle.graph_run.specs.Program.{tables_of, tallies_of}
use Rattle.graph_run.specs.Results.{tally_objects}
use Rattle.graph_run.specs.Schedule.{ArePlanes, CanReturn, CanRunBy, bare_objects, schedule_clients, schedule_objects}
use Rattle.graph_run.specs.Tasks.{client_cells}
use Rattle.graph_run.proofs.PlaneSteps.{client_below, client_from, plane_at, slots}
use Rattle.graph_run.proofs.ReadyLemmas.{clients_apart, clients_hold}
use Rattle.graph_run.proofs.ScheduleLemmas.{virtuals_below}
use Rattle.graph_run.proofs.ScheduleSteps.{block_count, client_ends, client_plane, plane_count, scheduled, scheduled_new, scheduled_reduces, tallies_end}
use Rattle.graph_run.proofs.SolutionStepsImages.{clients as theirs}
use Rattle.graph_run.proofs.SolutionStepsObjects.{Leaves}
use Rattle.graph_run.proofs.SolutionStepsTaken.{back_for, back_images, back_tallies, tables_lent, tables_same, value}

-- what a run of tasks over planes does, of which the first are for virtual images
pub record Ran (tables : ℕ → Option ObjectValue) (tasks : List Task) (slots : ℕ)
    (planes : List PlaneValue) (tallies : List Tally) (after : List PlaneValue)
    (counted : List Tally) : Type 0 where
  pub images : (c : ℕ)
      → IsClients slots (length planes) c
      → block_image (plane after c) ≡ images_at_end tables tasks (block_images planes) c
  pub clients : (c : ℕ)
      → IsClients slots (length planes) c
      → IsWhole (plane after c) × ((plane after c).desc ≡ (plane planes c).desc)
  pub tallied : AreTallied tables tasks (block_images planes) tallies counted
  pub blocks : capacities after ≡ capacities planes
  pub tallies_count : length counted ≡ length tallies

-- what a run does, of lists that are equal to those that it was given
pub run_is :
    (now bare : List NamedObject) (ns steps : List Node) (ts tasks : List Task)
    (ps planes : List PlaneValue) (ls tallies : List Tally) (high size slots : ℕ)
    (after : List PlaneValue) (counted : List Tally)
    → now ≡ bare
    → ns ≡ steps
    → ts ≡ tasks
    → ps ≡ planes
    → ls ≡ tallies
    → IsProgram (tables_of now steps) high size slots tasks planes
    →
    ((slots : ℕ)
    → IsProgram (tables_of now ns) high size slots ts ps
    → (c : ℕ)
    → IsClients slots (length ps) c
    → block_image (plane after c) ≡ images_at_end (tables_of now ns) ts (block_images ps) c)
    →
    ((slots : ℕ)
    → IsProgram (tables_of now ns) high size slots ts ps
    → (c : ℕ)
    → IsClients slots (length ps) c
    → IsWhole (plane after c) × ((plane after c).desc ≡ (plane ps c).desc))
    → AreTallied (tables_of now ns) ts (block_images ps) ls counted
    → capacities after ≡ capacities ps
    → length counted ≡ length ls
    → Ran (tables_of bare steps) tasks slots planes tallies after counted
run_is now bare ns steps ts tasks ps planes ls tallies high size slots after counted o n t p l
    program images clients tallied blocks count =
    let given : IsProgram (tables_of now ns) high size slots ts ps = rw (n, t, p) program in
    rw (← o, ← n, ← t, ← p, ← l)
    (record {
      images = images slots given;
      clients = clients slots given;
      tallied = tallied;
      blocks =
          blocks;
      tallies_count = count;
    })

module _ {objects : List NamedObject} {v : Verified} {s : Schedule} (g : CanRunBy objects v s) where
  abbrev count : ℕ
  count = length v.virtual_outputs

  abbrev clients : List Reference
  clients = schedule_clients v s

  same_clients : clients ≡ client_cells v.steps v.virtual_outputs
  same_clients = ap (drop count) g.schedule.cells

  pub cells_enough : count ≤ length s.cells.items
  cells_enough = omega (arith, virtuals_below v.steps v.virtual_outputs, ap length g.schedule.cells)

  pub clients_are_images : HoldImages objects clients
  clients_are_images = rw same_clients (clients_hold objects g.nodes v g.ready g.slots g.plan)

  pub clients_are_apart : AreAllApart clients
  clients_are_apart = rw same_clients (clients_apart objects g.nodes v g.ready g.slots g.plan)

  module _ (blocks : List BlockValue) (sizes : map block_size blocks ≡ s.capacities.items) where
    planned : map block_size blocks ≡ planned_capacities (band_plan s.size s.tasks.items g.slots)
    planned = sizes ∙ g.schedule.capacities

    module _ {planes : List PlaneValue} (t : ArePlanes objects v s blocks planes) where
      pub lends : LendTables (bare_objects objects v s) v.steps
      lends = rw same_clients (tables_lent g)

      own_tables : tables_of (bare_objects objects v s) v.steps ≡ tables_of objects v.steps
      own_tables = rw same_clients (tables_same g)

      same_slots : length blocks ≡ slots g
      same_slots = block_count g planned t

      pub runs :
          IsProgram (tables_of (bare_objects objects v s) v.steps) s.high s.size (length blocks)
          s.tasks.items planes
      runs = rw (own_tables, same_slots) (scheduled g planned t)

      pub reduces :
          CanReduceBand (tables_of (bare_objects objects v s) v.steps) 0 s.tasks.items
          (block_images planes) (tallies_of objects v.steps)
      reduces = rw own_tables (scheduled_reduces g planned t)

      pub are_new : AreNew s.tasks.items (tallies_of objects v.steps)
      are_new = scheduled_new g planned t

      -- after the tasks have run
      module _ {after : List PlaneValue} {counted : List Tally}
          (ran : Ran (tables_of (bare_objects objects v s) v.steps) s.tasks.items
          (length blocks) planes (tallies_of objects v.steps) after counted)
        where
          same_count : length after ≡ length planes
          same_count =
              sym (length-map after (λ q. let b : Format × ℕ = (q.format, length q.samples) in b))
              ∙ ap length ran.blocks
              ∙ length-map planes (λ q. let b : Format × ℕ = (q.format, length q.samples) in b)

          client_is : (c : Reference)
              → In c (theirs g)
              → IsClients (length blocks) (length planes) (plane_at g c)
          client_is c i = (
            omega (arith, client_from g c i, same_slots),
            omega (arith, client_below g c i, plane_count g planned t),
          )

          leaves : Leaves g after counted
          leaves = record {
            images =
                λ c i. ran.images (plane_at g c) (client_is c i)
                ∙ ap
                (λ tables. images_at_end tables s.tasks.items (block_images planes) (plane_at g c))
                own_tables
                ∙ client_ends g planned t c i;
            planes =
                λ c i. let k =
                ran.clients (plane_at g c) (client_is c i) in
                (k.0, k.1 ∙ ap (λ (p : PlaneValue). p.desc) (client_plane g planned t c i));
            counts =
                tallies_end g planned t counted
                (subst
                (λ tables. AreTallied tables s.tasks.items (block_images planes)
                (tallies_of objects v.steps) counted)
                own_tables ran.tallied);
            planes_count = same_count ∙ plane_count g planned t;
            tallies_count = ran.tallies_count;
          }

          module _ (lent_sizes : map lent_size blocks ≡ s.capacities.items)
              (now : List BlockValue) (same : map lent_size now ≡ map lent_size blocks) where
            now_slots : length now ≡ slots g
            now_slots =
                sym (length-map now lent_size)
                ∙ ap length same
                ∙ length-map blocks lent_size
                ∙ same_slots

            -- each slot's plane has as many samples as the pool lent in its block
            sizes_back : take (length now) (capacities after) ≡ map lent_size now
            sizes_back =
                let long : length now ≡ length (capacities t.slots) =
                sym (length-map now lent_size)
                ∙ ap length (same ∙ lent_sizes ∙ sym sizes ∙ sym t.sizes) in
                ap (take (length now))
                (ran.blocks ∙ ap capacities t.all ∙ map-append
                (λ q. let b : Format × ℕ = (q.format, length q.samples) in b) t.slots
                (image_planes objects clients))
                ∙ ap
                (λ n. take n (capacities t.slots ++ capacities (image_planes objects clients)))
                long
                ∙ take-append_seam (capacities t.slots) (capacities (image_planes objects clients))
                ∙ t.sizes ∙ sizes ∙ sym lent_sizes ∙ sym same

            pub can_return : CanReturn (bare_objects objects v s) v s now after counted
            can_return = record {
              cell_count = cells_enough;
              slot_count = omega (arith, now_slots, same_count, plane_count g planned t);
              sizes = sizes_back;
              images = rw same_clients (back_images g leaves);
              apart = clients_are_apart;
              planes_for = rw (same_clients, now_slots) (back_for g leaves);
              tallies_for =
                  rw (same_clients, g.schedule.tally_cells, now_slots) (back_tallies g leaves);
            }

            pub run_value :
                with_written
                (with_written (bare_objects objects v s) (schedule_objects v s (length now) after))
                (tally_objects s.tally_cells.items counted)
                ≡ run_of_graph (resolved_operand (operand_held objects) g.nodes) g.nodes objects
            run_value = rw (same_clients, g.schedule.tally_cells, now_slots) (value g leaves)
