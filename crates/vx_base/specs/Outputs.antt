-- The results of a node. OpenVX 1.3, "Vision Functions".
use Rattle.std.specs.Prelude.{pos, List, [], ◌∷◌, ◌++◌, Option, Some, None, if◌then◌else◌}
use Rattle.std.specs.Option.{option_and_then}
use Rattle.vx_base.specs.declared.format.Format.{Format}
use Rattle.vx_base.specs.declared.function.Function.{Function}
use Rattle.vx_base.specs.declared.function.Function.TheVariants.{NotBits, ConvertDepth, Integral}
use Rattle.vx_base.specs.declared.node.Node.{Node}
use Rattle.vx_base.specs.declared.output.Output.{Output}
use Rattle.vx_base.specs.declared.output.Output.TheVariants.{First, Second}
use Rattle.vx_base.specs.Reference.{Reference}
use Rattle.vx_base.specs.Function.{accumulates}
use Rattle.vx_base.specs.Image.{ImageValue}
use Rattle.vx_base.specs.Object.{ObjectValue, ImageObject, LutObject, ThresholdObject, ConvolutionObject, DistributionObject, ExtremesObject}
use Rattle.vx_base.specs.Pixelwise.{from_one, from_two, formula_of_one, formula_of_two, lookup_result, threshold_result}
use Rattle.vx_base.specs.Window.{from_nine, from_matrix, formula_of_nine}
use Rattle.vx_base.specs.Statistics.{histogram, sums_in, extremes}

-- the output image of a function of one image. The function is pixel-wise, makes an integral image,
-- or applies a formula to 3x3 windows.
abbrev pub image_of_one : Function → Node → Output → Format → ImageValue → ImageValue
image_of_one NotBits n output format a =
    from_one format (formula_of_one NotBits format n.policy n.amount) a
image_of_one ConvertDepth n output format a =
    from_one format (formula_of_one ConvertDepth format n.policy n.amount) a
image_of_one Integral n output format a = sums_in format a
image_of_one function n output format a =
    from_nine format (formula_of_nine function output) n.border a

-- an output image in this format, computed from the node's first input, and from the node's second
-- operand if the node has one
abbrev pub node_image : Node → Output → Format → ImageValue → Option ObjectValue → ImageValue
node_image n output format a None = image_of_one n.function n output format a
node_image n output format a (Some (ImageObject b)) =
    from_two format (formula_of_two n.function format n.policy n.amount) a b
node_image n output format a (Some (LutObject lut)) = from_one format (lookup_result lut) a
node_image n output format a (Some (ThresholdObject threshold)) =
    from_one format (threshold_result threshold) a
node_image n output format a (Some (ConvolutionObject convolution)) =
    from_matrix format convolution n.border a
node_image n output format a (Some other) = from_one format (λ _. pos 0) a

-- a node's second operand: its second input, or the output's earlier content if the function
-- accumulates
abbrev pub second_or_output : Node → Option ObjectValue → ObjectValue → Option ObjectValue
second_or_output n second old = if accumulates n.function then Some old else second

-- an output's new value, computed from the inputs and the output's earlier value. An accumulating
-- function reads the earlier value's samples. Other functions use only the earlier value's kind,
-- format and bins.
abbrev pub node_output : Node
    → Output
    → ObjectValue
    → Option ObjectValue
    → ObjectValue
    → ObjectValue
node_output n output (ImageObject a) second (ImageObject old) =
    ImageObject (node_image n output old.format a (second_or_output n second (ImageObject old)))
node_output n output (ImageObject a) second (DistributionObject d) =
    DistributionObject (record { bins = d.bins; counts = histogram d.bins a })
node_output n output (ImageObject a) second (ExtremesObject e) = ExtremesObject (extremes a)
node_output n output first second old = old

-- an output's reference and the output's new value, as a list of one pair; empty if the first input
-- or the output is missing
abbrev pub written_to : Node
    → Output
    → Reference
    → Option ObjectValue
    → Option ObjectValue
    → Option ObjectValue
    → List (Reference × ObjectValue)
written_to n output cell (Some first) second (Some old) =
    (cell, node_output n output first second old) ∷ []
written_to n output cell first second old = []

-- an output's reference and the output's new value, as a list of at most one pair. `start` gives
-- the objects at the start of the run. `held` gives the present objects. The output's earlier value
-- is from `start`, and the inputs are from `held`.
abbrev pub written_in : Node
    → Output
    → Option Reference
    → (Reference → Option ObjectValue)
    → (Reference → Option ObjectValue)
    → List (Reference × ObjectValue)
written_in n output None start held = []
written_in n output (Some cell) start held =
    written_to n output cell (held n.in1) (option_and_then held n.in2) (start cell)

-- the outputs of a node, each with the output's new value. The outputs' earlier values are from
-- `start`, and the inputs are from `held`.
abbrev pub written_from : (Reference → Option ObjectValue)
    → Node
    → (Reference → Option ObjectValue)
    → List (Reference × ObjectValue)
written_from start n held =
    written_in n First n.out1 start held ++ written_in n Second n.out2 start held

-- the outputs of a node, each with the output's new value. The inputs and the outputs' earlier
-- values are from `held`.
abbrev pub written_by : Node → (Reference → Option ObjectValue) → List (Reference × ObjectValue)
written_by n held = written_from held n held
