-- Objects as values.
use Rattle.std.specs.Prelude.{ℕ, ℤ, List}
use Rattle.vx_base.specs.declared.format.Format.TheVariants.{U8}
use Rattle.vx_base.specs.Graph.{GraphValue, new_graph}
use Rattle.vx_base.specs.Image.{ImageValue, new_image, image_over, description_of}
use Rattle.vx_base.specs.Object.{ObjectValue, DistributionValue, ImageObject, LutObject, ThresholdObject, DelayObject, ConvolutionObject, DistributionObject, ExtremesObject, GraphObject, VirtualObject, new_distribution}
use Rattle.vx_base.specs.Rectangle.{Rectangle}
use Rattle.object_table.specs.declared.object.Content.{Content}
use Rattle.object_table.specs.Delay.{aged_images}
use Rattle.object_table.specs.declared.object.Content.TheVariants.{Image, Lut, Threshold, Delay, Convolution, Distribution, Extremes, Graph, Virtual}

-- the value of an object with this content
abbrev pub value_of : Content → ObjectValue
value_of (Image image) = ImageObject image
value_of (Lut lut) = LutObject lut
value_of (Threshold threshold) = ThresholdObject threshold
value_of (Delay images) = DelayObject images
value_of (Convolution convolution) = ConvolutionObject convolution
value_of (Distribution distribution) = DistributionObject distribution
value_of (Extremes extremes) = ExtremesObject extremes
value_of (Graph graph) = GraphObject graph
value_of (Virtual image) = VirtualObject image

-- an object as an image; for another kind, an image without pixels
abbrev pub image_value : ObjectValue → ImageValue
image_value (ImageObject image) = image
image_value other = new_image 0 0 U8

-- an object as a distribution; for another kind, a distribution without bins
abbrev pub distribution_value : ObjectValue → DistributionValue
distribution_value (DistributionObject distribution) = distribution
distribution_value other = new_distribution (record { bins = 0; offset = 0; range = 0 })

-- an object as a graph; for another kind, a graph without nodes
abbrev pub graph_value : ObjectValue → GraphValue
graph_value (GraphObject graph) = graph
graph_value other = new_graph

-- the object aged once, if it is a delay; other objects don't change
abbrev pub aged_object : ObjectValue → ObjectValue
aged_object (DelayObject images) = DelayObject (aged_images images)
aged_object other = other

-- an image of the object's size and format, with this valid rectangle and these samples
abbrev pub with_samples : ObjectValue → Rectangle → List ℤ → ObjectValue
with_samples object valid samples =
    ImageObject (image_over (description_of (image_value object)) valid samples)

-- a distribution with the object's bins and these counts
abbrev pub with_counts : ObjectValue → List ℕ → ObjectValue
with_counts object counts =
    DistributionObject (record { bins = (distribution_value object).bins; counts = counts })
