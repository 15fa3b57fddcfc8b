-- Steps: nodes over planes, and the effect of one step.
use Rattle.std.specs.Prelude.{ℕ, ℤ, pos, ◌+◌, ◌-◌, ◌*◌, ◌<◌, ◌≤◌, ◌≡◌, ◌≢◌, ◌⊎◌, ◌==◌, ◌||◌, Bool, true, false, if◌then◌else◌, unsigned_abs, IsTrue, List, [], length, map, slice_index_or, slice_set, Option, Some, None, IfSome, unwrap_or}
use Rattle.std.specs.Option.{option_and_then}
use Rattle.vx_base.specs.declared.format.Format.{Format}
use Rattle.vx_base.specs.declared.format.Format.TheVariants.{U8}
use Rattle.vx_base.specs.Description.{Description, same_size}
use Rattle.vx_base.specs.Formats.{takes_formats}
use Rattle.vx_base.specs.declared.function.Function.{Function}
use Rattle.vx_base.specs.declared.function.Function.TheVariants.{Integral}
use Rattle.vx_base.specs.Convolution.{ConvolutionValue}
use Rattle.vx_base.specs.Function.{parameters, accumulates}
use Rattle.vx_base.specs.Image.{ImageValue, description_of, image_over, image_from}
use Rattle.vx_base.specs.declared.node.Node.{Node}
use Rattle.vx_base.specs.declared.output.Output.{Output}
use Rattle.vx_base.specs.Node.{IsNode}
use Rattle.vx_base.specs.Object.{ObjectValue, ImageObject, IsObject, object_kind, object_format}
use Rattle.vx_base.specs.Outputs.{node_image, second_or_output}
use Rattle.vx_base.specs.Rectangle.{empty_rectangle}
use Rattle.image_core.specs.declared.band.Band.{Band}
use Rattle.image_core.specs.declared.image_mut.ImageMut.{ImageMut}
use Rattle.image_core.specs.Bands.{IsInRows, image_over_rows}
use Rattle.image_core.specs.Target.{target_image}
use Rattle.image_core.specs.Fits.{SecondHasSize}
use Rattle.image_core.specs.Second.{second_object}
use Rattle.stat_kernels.specs.Sums.{sum_on}
use Rattle.node_rows.specs.Radius.{window_radius, matrix_in}
use Rattle.graph_steps.specs.declared.kernel.Kernel.{Kernel}
use Rattle.graph_steps.specs.declared.step.Step.{Step}
use Rattle.graph_steps.specs.declared.step.SecondSource.{SecondSource}
use Rattle.graph_steps.specs.declared.step.SecondSource.TheVariants.{Nothing, Plane, Table}
use Rattle.graph_steps.specs.Planes.{PlaneValue, plane, read_images, plane_image, with_read_rows, with_rows, with_description, IsReadable, IsWhole, TakesRows}

-- ---- images of steps

-- the plane at this index is an input of the step
abbrev pub ReadsPlane : Step → ℕ → Type 0
ReadsPlane s c = (s.first ≡ c) ⊎ (s.second ≡ Plane c)

-- a step's second input: an image, an object of `tables`, or none
abbrev pub second_in : (ℕ → Option ObjectValue)
    → (ℕ → ImageValue)
    → SecondSource
    → Option ObjectValue
second_in tables images Nothing = None
second_in tables images (Plane c) = Some (ImageObject (images c))
second_in tables images (Table k) = tables k

-- the image that a step computes from its inputs and, if it accumulates, from its old output
abbrev pub image_from_inputs : Step → ImageValue → Option ObjectValue → ImageValue → ImageValue
image_from_inputs s first second own =
    node_image s.node s.which own.format first (second_or_output s.node second (ImageObject own))

-- the image that a kernel computes, given the old output
abbrev pub kernel_image : Kernel → ImageValue → ImageValue
kernel_image k own = image_from_inputs k.step.now k.first.now (second_object k.second.now) own

-- the image with the samples of an output's band, and 0 in all other rows
abbrev pub held_image : ImageMut → ImageValue
held_image out = image_over_rows out.desc out.valid out.rows (target_image out).samples

-- the image that a step computes from its inputs in `images` and `tables`, given the old output
abbrev pub step_image : (ℕ → Option ObjectValue) → Step → (ℕ → ImageValue) → ImageValue → ImageValue
step_image tables s images own =
    image_from_inputs s (images s.first) (second_in tables images s.second) own

-- an image with this description and no samples
abbrev pub blank_image : Description → ImageValue
blank_image d = image_over d empty_rectangle []

-- the output as a step begins: the client's image, or a virtual image without samples
abbrev pub own_by : Option Description → ImageValue → ImageValue
own_by None image = image
own_by (Some d) image = blank_image d

-- the image that a step makes of whole images
abbrev pub whole_image : (ℕ → Option ObjectValue) → Step → (ℕ → ImageValue) → ImageValue
whole_image tables s images = step_image tables s images (own_by s.describes (images s.output))

-- the step of a node whose inputs are passed to the kernel directly, not as planes; the step's
-- plane indices aren't used
abbrev pub lent_step : Node → Output → Step
lent_step n which =
    record {
      node = n;
      which = which;
      first = 0;
      second = Nothing;
      output = 0;
      describes = None;
      radius = 0;
      halo = 0;
    }

-- ---- integral images

-- whether the function computes an integral image
abbrev pub is_integral : Function → Bool
is_integral Integral = true
is_integral other = false

-- whether a step with this function reads its own output: Integral does, and so does a function
-- that accumulates
abbrev pub reads_output : Function → Bool
reads_output function = accumulates function || is_integral function

-- the integral image's row above `start`, in a block that begins with row `top`; 0 if the block has
-- no such row
abbrev pub sums_above : ℕ → ℕ → ℕ → List ℤ → ℕ → ℕ
sums_above width top start samples x =
    if start == top then 0 else unsigned_abs
    (slice_index_or samples ((start - top - 1) * width + x) (pos 0))

-- the integral image in the rows from `start` on, continued from the row above `start` in the
-- output's block
abbrev pub scan_image : ℕ → ImageValue → PlaneValue → ImageValue
scan_image start first out =
    image_from first.width first.height out.desc.format first.valid
    (sum_on first start (sums_above out.desc.width out.top start out.samples))

-- the image whose rows a step writes
abbrev pub rows_image : (ℕ → Option ObjectValue)
    → Step
    → Band
    → (ℕ → ImageValue)
    → PlaneValue
    → ImageValue
rows_image tables s rows images out =
    if is_integral s.node.function then scan_image rows.start (images s.first) out else
    step_image tables s images (plane_image (with_read_rows rows out))

-- a step's radius: the number of input rows that it reads above an output row, and as many below.
-- It is 0 for Integral, which continues from the output row above. It is None if the function
-- writes no image.
abbrev pub step_radius : Function → Option ConvolutionValue → Option ℕ
step_radius function matrix = if is_integral function then Some 0 else window_radius function matrix

-- ---- premises of a step

-- the inputs and an output of this description have the kinds, formats and sizes that the function
-- takes
pub record CanMake (s : Step) (first : ImageValue) (second : Option ObjectValue)
    (out : Description) : Type 0 where
  pub node : IsNode s.node
  pub kind :
      IfSome second
      (λ object. (parameters s.node.function).second_input ≡ Some (object_kind object))
  pub formats :
      IsTrue
      (takes_formats s.node.function first.format (option_and_then object_format second)
      (Some out.format))
  pub size : IsTrue (same_size out (description_of first))
  pub second_size : SecondHasSize first second

-- the radius is enough for the rows that a function reads, in images of at most this height
abbrev pub Covers : Option ℕ → ℕ → ℕ → Type 0
Covers (Some rows) radius high = rows ≤ radius
Covers None radius high = high ≤ radius

-- a step can run on these whole images, if the heights are at most `high`
pub record Suits (tables : ℕ → Option ObjectValue) (high : ℕ) (s : Step)
    (images : ℕ → ImageValue) : Type 0 where
  pub makes :
      CanMake s (images s.first) (second_in tables images s.second)
      (description_of (own_by s.describes (images s.output)))
  pub table : (k : ℕ) → s.second ≡ Table k → IfSome (tables k) IsObject
  pub near :
      Covers (step_radius s.node.function (matrix_in (second_in tables images s.second)))
      s.radius high
  pub tall : (c : ℕ) → ReadsPlane s c → (images c).height ≤ high

-- the description of a step's output
abbrev pub output_desc : Step → List PlaneValue → Description
output_desc s planes = unwrap_or s.describes (plane planes s.output).desc

-- a step can write these rows of its output
pub record CanStep (tables : ℕ → Option ObjectValue) (s : Step) (rows : Band)
    (planes : List PlaneValue) : Type 0 where
  pub makes :
      CanMake s (read_images planes s.first) (second_in tables (read_images planes) s.second)
      (output_desc s planes)
  pub table : (k : ℕ) → s.second ≡ Table k → IfSome (tables k) IsObject
  pub output : s.output < length planes
  pub reads : (c : ℕ)
      → ReadsPlane s c
      → (c < length planes) × (c ≢ s.output) × IsReadable (plane planes c)
  pub within : IsInRows (output_desc s planes).height rows
  -- the plane of a virtual image has the image's format, and a block that is large enough
  pub block : (d : Description)
      → s.describes ≡ Some d
      → ((plane planes s.output).format ≡ d.format)
      × (rows.count * d.width ≤ length (plane planes s.output).samples)
  -- a client's image has all rows
  pub whole : s.describes ≡ None → IsWhole (plane planes s.output)

-- a step that reads these planes can write these rows of this output
pub record CanWrite (tables : ℕ → Option ObjectValue) (s : Step) (rows : Band)
    (planes : List PlaneValue) (out : PlaneValue) : Type 0 where
  pub reads : (c : ℕ) → ReadsPlane s c → (c < length planes) × IsReadable (plane planes c)
  pub makes :
      CanMake s (read_images planes s.first) (second_in tables (read_images planes) s.second)
      out.desc
  pub output : TakesRows rows out

-- ---- effect on planes

-- the output's plane as a step begins to write rows from `top` on: if the output is a virtual
-- image, the plane begins to hold it
abbrev pub output_plane : Option Description → ℕ → PlaneValue → PlaneValue
output_plane None top p = p
output_plane (Some d) top p = with_description d top p

-- the planes after a step has run on these rows of its output
abbrev pub after_step : (ℕ → Option ObjectValue) → Step → Band → List PlaneValue → List PlaneValue
after_step tables s rows planes =
    let out = output_plane s.describes rows.start (plane planes s.output) in
    slice_set planes s.output
    (with_rows rows (rows_image tables s rows (read_images planes) out) out)

-- the format and the number of samples of each plane's block
abbrev pub capacities : List PlaneValue → List (Format × ℕ)
capacities planes = map (λ p. (p.format, length p.samples)) planes

-- the format and the number of samples of one plane's block
abbrev pub capacity : List (Format × ℕ) → ℕ → Format × ℕ
capacity blocks c = slice_index_or blocks c (U8, 0)
