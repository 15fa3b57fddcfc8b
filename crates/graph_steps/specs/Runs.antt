-- Premises of running a program's tasks on one band.
use Rattle.std.specs.Prelude.{ℕ, ◌+◌, ◌<◌, ◌^◌, ◌≡◌, List, length, Option}
use Rattle.vx_base.specs.Image.{ImageValue, description_of}
use Rattle.vx_base.specs.Object.{ObjectValue}
use Rattle.image_core.specs.declared.band.Band.{Band}
use Rattle.graph_steps.specs.declared.step.Reduction.{Reduction}
use Rattle.graph_steps.specs.declared.step.Step.{Step}
use Rattle.graph_steps.specs.declared.step.Task.{Task}
use Rattle.graph_steps.specs.declared.step.Task.TheVariants.{Write, Reduce}
use Rattle.graph_steps.specs.Planes.{PlaneValue, plane, plane_image, IsReadable, IsWhole}
use Rattle.graph_steps.specs.Steps.{CanStep, capacities}
use Rattle.graph_steps.specs.declared.tally.Tally.{Tally}
use Rattle.graph_steps.specs.Tallies.{CanReduce, HaveOneReduction, ReduceInTurn}
use Rattle.graph_steps.specs.Program.{HaveOneWriter, HaveRoom, IsClients, IsNeeded, IsStepOf, NamesPlanes, Reduces, RunsInTurn, band_rows}

-- the tasks can run on a band. `images` are the whole images whose rows the planes have.
pub record CanRunBand (tables : ℕ → Option ObjectValue) (high slots : ℕ) (rows : Band)
    (tasks : List Task) (images : ℕ → ImageValue) (planes : List PlaneValue) : Type 0 where
  pub fits : rows.start + rows.count < 2 ^ 16
  pub names : (s : Step) → IsStepOf s tasks → NamesPlanes slots (length planes) s
  pub runs : RunsInTurn tables high tasks images
  pub one_writer : HaveOneWriter tasks
  pub reads : (c more : ℕ)
      → IsNeeded (IsClients slots (length planes)) high tasks c more
      → IsReadable (plane planes c) × ((plane planes c).desc ≡ description_of (images c))
  pub clients : (c : ℕ)
      → IsClients slots (length planes) c
      → IsWhole (plane planes c) × ((plane planes c).desc ≡ description_of (images c))
  pub inputs : (r : Reduction) → Reduces r tasks → r.input < length planes
  pub room : HaveRoom rows.count tasks (capacities planes)

-- the reductions can add a band that begins at row `first`, and no two reductions share a tally
pub record CanReduceBand (tables : ℕ → Option ObjectValue) (first : ℕ) (tasks : List Task)
    (images : ℕ → ImageValue) (tallies : List Tally) : Type 0 where
  pub apart : HaveOneReduction tasks
  pub reduces : ReduceInTurn tables first tasks images tallies

-- a task can run on a band
abbrev pub CanDo : (ℕ → Option ObjectValue) → Band → Task → List PlaneValue → List Tally → Type 0
CanDo tables rows (Write s) planes tallies = CanStep tables s (band_rows s rows planes) planes
CanDo tables rows (Reduce r) planes tallies =
    (r.input < length planes)
    × IsReadable (plane planes r.input)
    × CanReduce rows.start (plane_image (plane planes r.input)) tallies r
