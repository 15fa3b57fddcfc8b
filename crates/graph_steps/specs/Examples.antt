-- Two programs: one of three tasks, and one that writes an integral image.
use Rattle.std.specs.Prelude.{ℕ, List, [], ◌∷◌, Some, None, Option}
use Rattle.vx_base.specs.declared.border.Border.TheVariants.{Replicate}
use Rattle.vx_base.specs.declared.format.Format.TheVariants.{U8, U32}
use Rattle.vx_base.specs.declared.function.Function.TheVariants.{Box, Integral}
use Rattle.vx_base.specs.declared.node.Node.{Node}
use Rattle.vx_base.specs.declared.output.Output.TheVariants.{First}
use Rattle.vx_base.specs.declared.policy.Policy.TheVariants.{Wrap}
use Rattle.vx_base.specs.Reference.{reference_to}
use Rattle.vx_base.specs.Description.{Description}
use Rattle.vx_base.specs.Image.{new_image}
use Rattle.vx_base.specs.Object.{ObjectValue, no_extremes}
use Rattle.vx_base.specs.Rectangle.{empty_rectangle, whole_rectangle}
use Rattle.image_core.specs.Bands.{all_rows}
use Rattle.graph_steps.specs.declared.step.SecondSource.TheVariants.{Nothing}
use Rattle.graph_steps.specs.declared.step.Step.{Step}
use Rattle.graph_steps.specs.declared.step.Task.{Task}
use Rattle.graph_steps.specs.declared.step.Task.TheVariants.{Write, Reduce}
use Rattle.graph_steps.specs.declared.tally.Tally.{Tally}
use Rattle.graph_steps.specs.declared.tally.Tally.TheVariants.{Extremes}
use Rattle.graph_steps.specs.Planes.{PlaneValue}

-- the tables of a program whose steps read no tables
abbrev pub no_tables : ℕ → Option ObjectValue
no_tables k = None

-- the description of an image of 1 x 4 pixels
abbrev pub small_image_desc : Description
small_image_desc = record { width = 1; height = 4; format = U8 }

-- the plane of a client's image, with all rows
abbrev pub client_plane : PlaneValue
client_plane =
    record {
      desc = small_image_desc;
      valid = whole_rectangle 1 4;
      top = 0;
      rows = all_rows 4;
      format = U8;
      samples = (new_image 1 4 U8).samples;
    }

-- the plane of a slot, with a block for four rows
abbrev pub block_plane : PlaneValue
block_plane =
    record {
      desc = small_image_desc;
      valid = empty_rectangle;
      top = 0;
      rows = all_rows 0;
      format = U8;
      samples = (new_image 1 4 U8).samples;
    }

-- a box filter
abbrev pub box_node : Node
box_node =
    record {
      function = Box;
      border = Replicate;
      policy = Wrap;
      amount = 0;
      in1 = reference_to 1;
      in2 = None;
      out1 = Some (reference_to 2);
      out2 = None;
    }

-- the box filter as a step from one plane to another
abbrev pub box_step : ℕ → ℕ → Option Description → ℕ → Step
box_step input output describes halo =
    record {
      node = box_node;
      which = First;
      first = input;
      second = Nothing;
      output = output;
      describes = describes;
      radius = 1;
      halo = halo;
    }

-- two box filters in sequence, with a virtual image between them, and a reduction of the virtual
-- image to its extremes. The first filter writes one row more above and below a band, since the
-- second reads it.
abbrev pub boxes : List Task
boxes =
    Write (box_step 1 0 (Some small_image_desc) 1)
    ∷ Write (box_step 0 2 None 0)
    ∷ Reduce (record { input = 0; tally = 0 })
    ∷ []

-- the planes of these tasks: first the plane of the slot
abbrev pub box_planes : List PlaneValue
box_planes = block_plane ∷ client_plane ∷ client_plane ∷ []

-- the tally of the virtual image
abbrev pub box_tallies : List Tally
box_tallies = Extremes no_extremes ∷ []

-- ---- an integral image

-- the plane of the client's image to which the integral image is written
abbrev pub sums_plane : PlaneValue
sums_plane =
    record {
      desc = record { width = 1; height = 4; format = U32 };
      valid = whole_rectangle 1 4;
      top = 0;
      rows = all_rows 4;
      format = U32;
      samples = (new_image 1 4 U32).samples;
    }

-- a step that writes the integral image of a client's image
abbrev pub integral_step : Step
integral_step =
    record {
      node = record box_node { function = Integral };
      which = First;
      first = 0;
      second = Nothing;
      output = 1;
      describes = None;
      radius = 0;
      halo = 0;
    }

-- the program whose only task is this step
abbrev pub sums : List Task
sums = Write integral_step ∷ []

-- the planes of this program
abbrev pub sums_planes : List PlaneValue
sums_planes = client_plane ∷ sums_plane ∷ []
