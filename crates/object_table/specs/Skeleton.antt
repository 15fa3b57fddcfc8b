-- The skeleton of an object: the attributes that no write and no run changes. In OpenVX 1.3 these
-- are read-only attributes, such as VX_IMAGE_WIDTH, VX_DELAY_SLOTS or VX_DISTRIBUTION_BINS.
use Rattle.std.specs.Prelude.{[], map}
use Rattle.vx_base.specs.Graph.{new_graph}
use Rattle.vx_base.specs.Image.{ImageValue, image_over, description_of}
use Rattle.vx_base.specs.Object.{ObjectValue, ImageObject, DelayObject, DistributionObject, ExtremesObject, GraphObject, no_extremes}
use Rattle.vx_base.specs.Rectangle.{empty_rectangle}

-- an image's size and format
abbrev pub image_skeleton : ImageValue → ImageValue
image_skeleton image = image_over (description_of image) empty_rectangle []

-- the skeleton of an object. For an image: its size and format. For a delay: the size and format of
-- each image. For a distribution: its bins. For extremes or a graph: only the kind. For any other
-- object: everything.
abbrev pub skeleton : ObjectValue → ObjectValue
skeleton (ImageObject image) = ImageObject (image_skeleton image)
skeleton (DelayObject images) = DelayObject (map image_skeleton images)
skeleton (DistributionObject distribution) =
    DistributionObject (record { bins = distribution.bins; counts = [] })
skeleton (ExtremesObject extremes) = ExtremesObject no_extremes
skeleton (GraphObject graph) = GraphObject new_graph
skeleton other = other
