-- Blocks of samples that virtual images share, by their slots.
use Rattle.std.specs.Prelude.{ℕ, ◌+◌, ◌*◌, ◌==◌, if◌then◌else◌, max, min, List, [], ◌∷◌, length, sum_by, Option, Some, None}
use Rattle.vx_base.specs.declared.format.Format.{Format}
use Rattle.vx_base.specs.declared.samples.Samples.{Samples}
use Rattle.vx_base.specs.Description.{Description}
use Rattle.vx_base.specs.Picture.{values, samples_format}
use Rattle.pixel_pool.specs.Block.{BlockValue}
use Rattle.pixel_pool.specs.Pool.{one_of}
use Rattle.buffer_plan.specs.Plan.{PlanView}
use Rattle.graph_steps.specs.declared.step.Step.{Step}
use Rattle.graph_steps.specs.declared.step.Task.{Task}
use Rattle.graph_steps.specs.declared.step.Task.TheVariants.{Reduce, Write}
use Rattle.graph_run.specs.Slots.{slot_index}

-- the format and the number of samples
abbrev pub samples_size : Samples → Format × ℕ
samples_size samples = (samples_format samples, length (values samples))

-- the format and the number of samples of a block; the number is 0 while the samples are lifted
abbrev pub block_size : BlockValue → Format × ℕ
block_size block = samples_size block.samples

-- the format of a block, and the number of samples that the pool lent
abbrev pub lent_size : BlockValue → Format × ℕ
lent_size block = (samples_format block.samples, block.count)

-- the number of blocks of a format
abbrev pub blocks_of_format : List BlockValue → Format → ℕ
blocks_of_format blocks format = sum_by (λ b. one_of (lent_size b).0 format) blocks

-- the number of blocks of this format, given the format and size of each block
abbrev pub capacity_count : List (Format × ℕ) → Format → ℕ
capacity_count capacities format = sum_by (λ r. one_of r.0 format) capacities

-- the number of samples in a band of `size` rows of an image, with `rows` rows of halo above and as
-- many below; at most the number in the whole image
abbrev pub band_samples : ℕ → ℕ → Description → ℕ
band_samples size rows desc = min desc.height (size + rows + rows) * desc.width

-- the number of samples in a band of `size` rows, with halo, of the virtual image that a step
-- writes
abbrev pub step_samples : ℕ → Step → Option Description → ℕ
step_samples size s None = 0
step_samples size s (Some d) = band_samples size s.halo d

-- the number of samples that a task needs in a slot: those of the band that it writes to the slot
abbrev pub task_samples : ℕ → ℕ → Task → ℕ
task_samples size slot (Write s) = if s.output == slot then step_samples size s s.describes else 0
task_samples size slot (Reduce r) = 0

-- the number of samples that a slot needs: the most that any task needs
abbrev pub samples_for : ℕ → ℕ → List Task → ℕ
samples_for size slot [] = 0
samples_for size slot (t ∷ tasks) = max (task_samples size slot t) (samples_for size slot tasks)

-- the plan with slots that are large enough for bands of `size` rows with their halos
abbrev pub band_plan : ℕ → List Task → PlanView → PlanView
band_plan size tasks p = record p {
  slot_samples = λ format k. samples_for size (slot_index p format k) tasks;
}
