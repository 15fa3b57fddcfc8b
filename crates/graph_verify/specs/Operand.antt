-- Operands: the properties of objects on which a verdict depends, which are kind, size and format.
use Rattle.std.specs.Prelude.{ℕ, Bool, true, false, List, ◌++◌, Option, Some, None, option_to_list}
use Rattle.std.specs.Option.{option_map}
use Rattle.vx_base.specs.declared.format.Format.{Format}
use Rattle.vx_base.specs.declared.format.Format.TheVariants.{S16}
use Rattle.vx_base.specs.declared.kind.Kind.{Kind}
use Rattle.vx_base.specs.declared.kind.Kind.TheVariants as kind
use Rattle.vx_base.specs.declared.node.Node.{Node}
use Rattle.vx_base.specs.Reference.{Reference}
use Rattle.vx_base.specs.Description.{Description, same_size, byte_count}
use Rattle.vx_base.specs.Image.{description_of}
use Rattle.vx_base.specs.Object.{ObjectValue, ImageObject, LutObject, ThresholdObject, DelayObject, ConvolutionObject, DistributionObject, ExtremesObject, GraphObject, VirtualObject}
use Rattle.graph_verify.specs.declared.operand.Operand.{Operand}
use Rattle.graph_verify.specs.declared.operand.Operand.TheVariants.{Image, Lut, Threshold, Delay, Convolution, Distribution, Extremes, Graph, Virtual, Missing}
use Rattle.graph_verify.specs.declared.operand.Operands.{Operands}

-- an object as an operand
abbrev pub operand_of : ObjectValue → Operand
operand_of (ImageObject image) = Image (description_of image)
operand_of (LutObject lut) = Lut lut.format
operand_of (ThresholdObject threshold) = Threshold threshold.format
operand_of (DelayObject images) = Delay
operand_of (ConvolutionObject convolution) = Convolution
operand_of (DistributionObject distribution) = Distribution
operand_of (ExtremesObject extremes) = Extremes
operand_of (GraphObject graph) = Graph
operand_of (VirtualObject image) = Virtual image.declared

-- the kind of the object; None if there is no object
abbrev pub operand_kind : Operand → Option Kind
operand_kind (Image d) = Some kind.Image
operand_kind (Lut format) = Some kind.Lut
operand_kind (Threshold format) = Some kind.Threshold
operand_kind Delay = Some kind.Delay
operand_kind Convolution = Some kind.Convolution
operand_kind Distribution = Some kind.Distribution
operand_kind Extremes = Some kind.Extremes
operand_kind Graph = Some kind.Graph
operand_kind (Virtual declared) = Some kind.VirtualImage
operand_kind Missing = None

-- the format of an image's samples, of a lookup table's entries, of the samples that a threshold
-- tests, or of a convolution's coefficients; None for a virtual image and for any other operand
abbrev pub operand_format : Operand → Option Format
operand_format (Image d) = Some d.format
operand_format (Lut format) = Some format
operand_format (Threshold format) = Some format
operand_format Convolution = Some S16
operand_format other = None

-- whether two operands have the same size; true if one of them is virtual or isn't an image
abbrev pub are_of_one_size : Operand → Operand → Bool
are_of_one_size (Image d) (Image e) = same_size d e
are_of_one_size a b = true

-- whether an operand is a virtual image
abbrev pub is_virtual : Operand → Bool
is_virtual (Virtual declared) = true
is_virtual other = false

-- whether an operand is an image, virtual or not
abbrev pub is_image : Operand → Bool
is_image (Image d) = true
is_image (Virtual declared) = true
is_image other = false

-- the description of an image that isn't virtual; None for any other operand
abbrev pub operand_description : Operand → Option Description
operand_description (Image d) = Some d
operand_description other = None

-- the size of an image's samples in bytes; 0 for an unresolved virtual image and for any other
-- operand
abbrev pub resolved_bytes : Operand → ℕ
resolved_bytes (Image d) = byte_count d
resolved_bytes other = 0

-- the operands that a node's references denote
abbrev pub operands_of : (Reference → Operand) → Node → Operands
operands_of is n = record {
  in1 = is n.in1;
  in2 = option_map is n.in2;
  out1 = option_map is n.out1;
  out2 = option_map is n.out2;
}

-- a node's output operands
abbrev pub written_operands : Operands → List Operand
written_operands o = option_to_list o.out1 ++ option_to_list o.out2

-- a node's operands other than its first input
abbrev pub other_operands : Operands → List Operand
other_operands o = option_to_list o.in2 ++ written_operands o
