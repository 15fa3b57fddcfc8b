-- Schedules: the planes, tasks and bands of a run of a verified graph.
use Rattle.std.specs.Prelude.{◌≡◌, ◌≤◌, ◌<◌, ◌++◌, ℕ, List, drop, length, map, take, All}
use Rattle.std.specs.List.Sorted.{IsStrictlyIncreasing}
use Rattle.vx_base.specs.declared.node.Node.{Node}
use Rattle.vx_base.specs.Reference.{Reference}
use Rattle.vx_base.specs.Description.{IsDescription}
use Rattle.vx_base.specs.Object.{ObjectValue, IsObject}
use Rattle.pixel_pool.specs.Block.{BlockValue}
use Rattle.object_table.specs.NamedObject.{NamedObject, with_written}
use Rattle.object_table.specs.Table.{image_held}
use Rattle.graph_verify.specs.declared.verified.Verified.{Verified}
use Rattle.buffer_plan.specs.Plan.{IsPlan, PlanView}
use Rattle.graph_steps.specs.declared.tally.Tally.{Tally}
use Rattle.graph_steps.specs.Halos.{without_halo}
use Rattle.graph_steps.specs.Planes.{PlaneValue}
use Rattle.graph_steps.specs.Program.{AreEnough}
use Rattle.graph_steps.specs.Steps.{capacities}
use Rattle.graph_run.specs.declared.schedule.Schedule.{Schedule}
use Rattle.graph_run.specs.Bind.{AreAllApart, AreFor, HoldImages, bare_images, image_planes, plane_objects}
use Rattle.graph_run.specs.Blocks.{band_plan, block_size, lent_size}
use Rattle.graph_run.specs.Bound.{AreTalliesFor}
use Rattle.graph_run.specs.Operands.{IsReady}
use Rattle.graph_run.specs.Program.{AddOnce, radius_of}
use Rattle.graph_run.specs.Results.{tally_cells}
use Rattle.graph_run.specs.Slots.{planned_capacities}
use Rattle.graph_run.specs.Tasks.{client_cells, graph_cells, graph_tasks}

-- a schedule of a verified graph, with the slots of this plan
pub record IsSchedule (objects : List NamedObject) (v : Verified) (p : PlanView) (s : Schedule)
    : Type 0 where
  pub cells : s.cells.items ≡ graph_cells v.steps v.virtual_outputs
  pub tasks :
      map without_halo s.tasks.items
      ≡ graph_tasks v.steps v.virtual_outputs p (radius_of objects s.high)
  pub enough : AreEnough s.high s.tasks.items
  pub some : 0 < s.high
  pub forward : 0 < s.size
  pub capacities : s.capacities.items ≡ planned_capacities (band_plan s.size s.tasks.items p)
  pub once : AddOnce s.high s.size s.tasks.items
  pub virtuals : All (λ o. o.desc.height ≤ s.high) v.virtual_outputs
  pub clients :
      All (λ c. (image_held objects c).height ≤ s.high) (client_cells v.steps v.virtual_outputs)
  pub tally_cells : s.tally_cells.items ≡ tally_cells v.steps

-- the schedule's references to the client's images
abbrev pub schedule_clients : Verified → Schedule → List Reference
schedule_clients v s = drop (length v.virtual_outputs) s.cells.items

-- the schedule's references to the client's images, each with the image of its plane; the planes of
-- the slots come first
abbrev pub schedule_objects : Verified
    → Schedule
    → ℕ
    → List PlaneValue
    → List (Reference × ObjectValue)
schedule_objects v s slots planes = plane_objects (schedule_clients v s) (drop slots planes)

-- ---- runs by a schedule

-- a verified graph can run on these objects by this schedule
pub record CanRunBy (objects : List NamedObject) (v : Verified) (s : Schedule) : Type 0 where
  pub are : All (λ o. IsObject o.object) objects
  pub names : IsStrictlyIncreasing (map (λ o. o.name) objects)
  pub nodes : List Node
  pub ready : IsReady objects nodes v
  pub slots : PlanView
  pub plan : IsPlan v.steps v.virtual_outputs slots
  pub schedule : IsSchedule objects v slots s
  pub described : All (λ o. IsDescription o.desc) v.virtual_outputs

-- the objects while the samples of the client's images are in planes
abbrev pub bare_objects : List NamedObject → Verified → Schedule → List NamedObject
bare_objects objects v s = with_written objects (bare_images objects (schedule_clients v s))

-- the planes before the tasks run: first the planes of the slots, which have the slots' blocks,
-- then
-- the planes of the client's images
pub record ArePlanes (objects : List NamedObject) (v : Verified) (s : Schedule)
    (blocks : List BlockValue) (planes : List PlaneValue) : Type 0 where
  pub slots : List PlaneValue
  pub sizes : capacities slots ≡ map block_size blocks
  pub all : planes ≡ slots ++ image_planes objects (schedule_clients v s)

-- the samples of planes can move back to these blocks and objects, and the tallies to the objects
pub record CanReturn (objects : List NamedObject) (v : Verified) (s : Schedule)
    (blocks : List BlockValue) (planes : List PlaneValue) (tallies : List Tally) : Type 0 where
  pub cell_count : length v.virtual_outputs ≤ length s.cells.items
  pub slot_count : length blocks ≤ length planes
  pub sizes : take (length blocks) (capacities planes) ≡ map lent_size blocks
  pub images : HoldImages objects (schedule_clients v s)
  pub apart : AreAllApart (schedule_clients v s)
  pub planes_for : AreFor objects (schedule_clients v s) (drop (length blocks) planes)
  pub tallies_for :
      AreTalliesFor (with_written objects (schedule_objects v s (length blocks) planes))
      s.tally_cells.items tallies
