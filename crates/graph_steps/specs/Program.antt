-- Programs: tasks that run band by band, and the images that they write.
use Rattle.std.specs.Prelude.{ℕ, ◌+◌, ◌*◌, ◌<◌, ◌≤◌, ◌≡◌, ◌≢◌, ◌⊎◌, ◌==◌, if◌then◌else◌, min, true, List, [], ◌∷◌, length, Some, None, Option}
use Rattle.vx_base.specs.declared.format.Format.{Format}
use Rattle.vx_base.specs.Description.{Description}
use Rattle.vx_base.specs.Function.{accumulates}
use Rattle.vx_base.specs.Image.{ImageValue, IsImage}
use Rattle.vx_base.specs.Object.{ObjectValue}
use Rattle.image_core.specs.declared.band.Band.{Band}
use Rattle.image_core.specs.Bands.{all_rows}
use Rattle.graph_steps.specs.declared.step.Reduction.{Reduction}
use Rattle.graph_steps.specs.declared.step.Step.{Step}
use Rattle.graph_steps.specs.declared.step.Task.{Task}
use Rattle.graph_steps.specs.declared.step.Task.TheVariants.{Write, Reduce}
use Rattle.graph_steps.specs.Planes.{PlaneValue, plane, block_image, block_images, with_halo, IsWhole}
use Rattle.graph_steps.specs.Steps.{ReadsPlane, Suits, reads_output, whole_image, after_step, capacities, capacity, output_desc}

-- s is one of the steps
abbrev pub IsStepOf : Step → List Task → Type 0
IsStepOf s [] = ⊥
IsStepOf s (Write t ∷ others) = (s ≡ t) ⊎ IsStepOf s others
IsStepOf s (Reduce r ∷ others) = IsStepOf s others

-- r is one of the reductions
abbrev pub Reduces : Reduction → List Task → Type 0
Reduces r [] = ⊥
Reduces r (Write s ∷ others) = Reduces r others
Reduces r (Reduce q ∷ others) = (r ≡ q) ⊎ Reduces r others

-- ---- whole images

-- the images, with this image in place of the one at index `c`
abbrev pub with_image : ℕ → ImageValue → (ℕ → ImageValue) → ℕ → ImageValue
with_image c image images k = if k == c then image else images k

-- the images after a task on whole images
abbrev pub images_after : (ℕ → Option ObjectValue) → Task → (ℕ → ImageValue) → ℕ → ImageValue
images_after tables (Write s) images = with_image s.output (whole_image tables s images) images
images_after tables (Reduce r) images = images

-- the images after all tasks on whole images, one task after the other
abbrev pub images_at_end : (ℕ → Option ObjectValue) → List Task → (ℕ → ImageValue) → ℕ → ImageValue
images_at_end tables [] images = images
images_at_end tables (t ∷ later) images = images_at_end tables later (images_after tables t images)

-- each task can run on the whole images that it meets, if the heights are at most `high`
abbrev pub RunsInTurn : (ℕ → Option ObjectValue) → ℕ → List Task → (ℕ → ImageValue) → Type 0
RunsInTurn tables high [] images = Unit {0}
RunsInTurn tables high (Write s ∷ later) images =
    Suits tables high s images × RunsInTurn tables high later (images_after tables (Write s) images)
RunsInTurn tables high (Reduce r ∷ later) images =
    IsImage (images r.input)
    × ((images r.input).height ≤ high)
    × RunsInTurn tables high later images

-- ---- planes of a client's images

-- no step writes the plane at this index
abbrev pub IsUnwritten : List Task → ℕ → Type 0
IsUnwritten tasks c = (s : Step) → IsStepOf s tasks → s.output ≢ c

-- each client's image is written by at most one step
abbrev pub HaveOneWriter : List Task → Type 0
HaveOneWriter [] = Unit {0}
HaveOneWriter (Write s ∷ later) =
    (s.describes ≡ None → IsUnwritten later s.output) × HaveOneWriter later
HaveOneWriter (Reduce r ∷ later) = HaveOneWriter later

-- the plane at this index has a client's image; the planes of the slots come first
abbrev pub IsClients : ℕ → ℕ → ℕ → Type 0
IsClients slots count c = (slots ≤ c) × (c < count)

-- ---- halos

-- the plane's image is still needed, with this many rows above a band and as many below: the next
-- step or reduction that names the plane reads it, or no step writes the plane and its image is a
-- client's
abbrev pub IsNeeded : (ℕ → Type 0) → ℕ → List Task → ℕ → ℕ → Type 0
IsNeeded kept high [] c rows = kept c × (rows ≡ 0)
IsNeeded kept high (Write s ∷ later) c rows =
    (ReadsPlane s c × (rows ≡ min high (s.halo + s.radius)))
    ⊎ ((c ≢ s.output) × IsNeeded kept high later c rows)
IsNeeded kept high (Reduce r ∷ later) c rows =
    ((r.input ≡ c) × (rows ≡ 0)) ⊎ IsNeeded kept high later c rows

-- each step writes as many rows above and below a band as later tasks need of its output
abbrev pub AreEnough : ℕ → List Task → Type 0
AreEnough high [] = Unit {0}
AreEnough high (Write s ∷ later) =
    ((rows : ℕ) → IsNeeded (λ c. ⊥) high later s.output rows → rows ≤ s.halo) × AreEnough high later
AreEnough high (Reduce r ∷ later) = AreEnough high later

-- ---- a band

-- the rows that a step writes for a band: the rows of the band and of the halo
abbrev pub band_rows : Step → Band → List PlaneValue → Band
band_rows s rows planes = with_halo s.halo (output_desc s planes).height rows

-- the planes after a task on a band
abbrev pub after_task : (ℕ → Option ObjectValue) → Band → Task → List PlaneValue → List PlaneValue
after_task tables rows (Write s) planes = after_step tables s (band_rows s rows planes) planes
after_task tables rows (Reduce r) planes = planes

-- the planes after all tasks on a band, in order
abbrev pub after_tasks : (ℕ → Option ObjectValue)
    → Band
    → List Task
    → List PlaneValue
    → List PlaneValue
after_tasks tables rows [] planes = planes
after_tasks tables rows (t ∷ later) planes =
    after_tasks tables rows later (after_task tables rows t planes)

-- ---- programs

-- the block has the image's format and is large enough for a band of `size` rows with `more` rows
-- of halo above and as many below
abbrev pub HoldsRows : ℕ → ℕ → Description → Format × ℕ → Type 0
HoldsRows size more d block =
    (block.0 ≡ d.format) × (min d.height (size + more + more) * d.width ≤ block.1)

-- each slot's block holds a band, with halo, of each virtual image that steps write to the slot
abbrev pub HaveRoom : ℕ → List Task → List (Format × ℕ) → Type 0
HaveRoom size tasks blocks =
    (s : Step)
    → IsStepOf s tasks
    → (d : Description)
    → s.describes ≡ Some d
    → HoldsRows size s.halo d (capacity blocks s.output)

-- a step's planes have indices below `count`, and its output isn't an input. A virtual image is
-- written to the plane of a slot, and a client's image to its own plane. A step that accumulates
-- writes a client's image.
pub record NamesPlanes (slots count : ℕ) (s : Step) : Type 0 where
  pub output : s.output < count
  pub reads : (c : ℕ) → ReadsPlane s c → (c < count) × (c ≢ s.output)
  pub virtual : (d : Description) → s.describes ≡ Some d → s.output < slots
  pub client : s.describes ≡ None → slots ≤ s.output
  pub own : accumulates s.node.function ≡ true → s.describes ≡ None

-- the plane of a client's image before a run
pub record IsClient (p : PlaneValue) : Type 0 where
  pub whole : IsWhole p
  pub rows : p.rows ≡ all_rows p.desc.height
  pub image : IsImage (block_image p)

-- the tasks can run in bands of `size` rows over planes of at most `high` rows. The first `slots`
-- planes are for virtual images.
pub record IsProgram (tables : ℕ → Option ObjectValue) (high size slots : ℕ) (tasks : List Task)
    (planes : List PlaneValue) : Type 0 where
  pub some : 0 < high
  pub forward : 0 < size
  pub clients : (c : ℕ) → IsClients slots (length planes) c → IsClient (plane planes c)
  pub tall : (c : ℕ) → IsClients slots (length planes) c → (plane planes c).desc.height ≤ high
  pub names : (s : Step) → IsStepOf s tasks → NamesPlanes slots (length planes) s
  pub inputs : (r : Reduction) → Reduces r tasks → r.input < length planes
  pub runs : RunsInTurn tables high tasks (block_images planes)
  pub one_writer : HaveOneWriter tasks
  -- a task's input was written by an earlier step, or is a client's image that no step writes
  pub begins : (c rows : ℕ)
      → IsNeeded (IsClients slots (length planes)) high tasks c rows
      → IsUnwritten tasks c × IsClients slots (length planes) c
  pub enough : AreEnough high tasks
  pub room : HaveRoom size tasks (capacities planes)
  -- a step that reads its own output writes each row once, to an image of all rows: either the
  -- output is a client's image and has no halo, or there is only one band
  pub once : (s : Step)
      → IsStepOf s tasks
      → reads_output s.node.function ≡ true
      → ((s.halo ≡ 0) × (s.describes ≡ None)) ⊎ (high ≤ size)
