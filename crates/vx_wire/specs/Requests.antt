-- Requests and their bodies. The cases of each definition are ordered by families: contexts,
-- images, objects of any kind, lookup tables (with thresholds and convolutions), statistics,
-- graphs, immediate nodes, delays.
use Rattle.std.specs.Prelude.{ℕ, ⊤, List, [], ◌∷◌, ◌++◌, Option, Some, None, Result, Err}
use Rattle.std.specs.Int.{w32, to_be_bytes}
use Rattle.client_model.specs.declared.request.Request.{Request}
use Rattle.client_model.specs.declared.request.Request.TheVariants.{OpenContext, ReleaseContext, CreateImage, QueryImage, WriteImage, WriteImagePgm, ReadImage, ReadImagePgm, SetValid, Release, CreateLut, CreateThreshold, CreateConvolution, CreateDistribution, ReadDistribution, CreateMinMax, ReadMinMax, CreateGraph, CreateVirtualImage, AddNode, RemoveNode, VerifyGraph, ProcessGraph, Immediate, CreateDelay, AgeDelay, RegisterAutoAging}
use Rattle.vx_wire.specs.declared.body_fault.BodyFault.{BodyFault}
use Rattle.vx_wire.specs.declared.body_fault.BodyFault.TheVariants.{InvalidParameters}
use Rattle.vx_wire.specs.declared.op.Op.{Op}
use Rattle.vx_wire.specs.declared.op.Op.TheVariants as ops
use Rattle.vx_wire.specs.Op.{op_numbered}
use Rattle.vx_wire.specs.Description.{description_bytes}
use Rattle.vx_wire.specs.PartialDescription.{partial_desc_bytes}
use Rattle.vx_wire.specs.Reference.{reference_bytes}
use Rattle.vx_wire.specs.Rectangle.{rectangle_bytes}
use Rattle.vx_wire.specs.Samples.{picture_bytes}
use Rattle.vx_wire.specs.Lut.{lut_bytes}
use Rattle.vx_wire.specs.Threshold.{threshold_bytes}
use Rattle.vx_wire.specs.Convolution.{convolution_bytes}
use Rattle.vx_wire.specs.Bins.{bins_bytes}
use Rattle.vx_wire.specs.Node.{node_bytes}
use Rattle.vx_wire.specs.Contexts.{open_context_in, release_context_in}
use Rattle.vx_wire.specs.Images.{create_image_in, query_image_in, write_image_in, write_image_pgm_in, read_image_in, read_image_pgm_in, set_valid_in}
use Rattle.vx_wire.specs.Objects.{release_in}
use Rattle.vx_wire.specs.Tables.{create_lut_in, create_threshold_in, create_convolution_in}
use Rattle.vx_wire.specs.Statistics.{create_distribution_in, read_distribution_in, create_min_max_in, read_min_max_in}
use Rattle.vx_wire.specs.Graphs.{create_graph_in, create_virtual_image_in, add_node_in, remove_node_in, verify_graph_in, process_graph_in}
use Rattle.vx_wire.specs.Immediate.{immediate_in}
use Rattle.vx_wire.specs.Delays.{create_delay_in, age_delay_in, register_auto_aging_in}

-- the request that a body of this op encodes
abbrev pub request_with : Op → List ℕ → Result Request BodyFault
request_with ops.OpenContext body = open_context_in body
request_with ops.ReleaseContext body = release_context_in body
request_with ops.CreateImage body = create_image_in body
request_with ops.QueryImage body = query_image_in body
request_with ops.WriteImage body = write_image_in body
request_with ops.WriteImagePgm body = write_image_pgm_in body
request_with ops.ReadImage body = read_image_in body
request_with ops.ReadImagePgm body = read_image_pgm_in body
request_with ops.SetValid body = set_valid_in body
request_with ops.Release body = release_in body
request_with ops.CreateLut body = create_lut_in body
request_with ops.CreateThreshold body = create_threshold_in body
request_with ops.CreateConvolution body = create_convolution_in body
request_with ops.CreateDistribution body = create_distribution_in body
request_with ops.ReadDistribution body = read_distribution_in body
request_with ops.CreateMinMax body = create_min_max_in body
request_with ops.ReadMinMax body = read_min_max_in body
request_with ops.CreateGraph body = create_graph_in body
request_with ops.CreateVirtualImage body = create_virtual_image_in body
request_with ops.AddNode body = add_node_in body
request_with ops.RemoveNode body = remove_node_in body
request_with ops.VerifyGraph body = verify_graph_in body
request_with ops.ProcessGraph body = process_graph_in body
request_with ops.Immediate body = immediate_in body
request_with ops.CreateDelay body = create_delay_in body
request_with ops.AgeDelay body = age_delay_in body
request_with ops.RegisterAutoAging body = register_auto_aging_in body

-- the request that a body of this op encodes; InvalidParameters if there is no op
abbrev pub request_with_known : Option Op → List ℕ → Result Request BodyFault
request_with_known None body = Err InvalidParameters
request_with_known (Some op) body = request_with op body

-- the request that an op's number and a body encode
abbrev pub request_of : ℕ → List ℕ → Result Request BodyFault
request_of number body = request_with_known (op_numbered number) body

-- the body that encodes a request
abbrev pub body_of : Request → List ℕ
body_of OpenContext = []
body_of ReleaseContext = []
body_of (CreateImage d) = description_bytes d
body_of (QueryImage image) = reference_bytes image
body_of (WriteImage image picture) = reference_bytes image ++ picture_bytes picture
body_of (WriteImagePgm image text) = reference_bytes image ++ text
body_of (ReadImage image) = reference_bytes image
body_of (ReadImagePgm image) = reference_bytes image
body_of (SetValid image rectangle) = reference_bytes image ++ rectangle_bytes rectangle
body_of (Release name) = to_be_bytes w32 name
body_of (CreateLut lut) = lut_bytes lut
body_of (CreateThreshold threshold) = threshold_bytes threshold
body_of (CreateConvolution convolution) = convolution_bytes convolution
body_of (CreateDistribution bins) = bins_bytes bins
body_of (ReadDistribution name) = to_be_bytes w32 name
body_of CreateMinMax = []
body_of (ReadMinMax name) = to_be_bytes w32 name
body_of CreateGraph = []
body_of (CreateVirtualImage graph declared) = to_be_bytes w32 graph ++ partial_desc_bytes declared
body_of (AddNode graph node) = to_be_bytes w32 graph ++ node_bytes node
body_of (RemoveNode graph number) = to_be_bytes w32 graph ++ to_be_bytes w32 number
body_of (VerifyGraph graph) = to_be_bytes w32 graph
body_of (ProcessGraph graph) = to_be_bytes w32 graph
body_of (Immediate node) = node_bytes node
body_of (CreateDelay exemplar slots) = reference_bytes exemplar ++ slots ∷ []
body_of (AgeDelay name) = to_be_bytes w32 name
body_of (RegisterAutoAging graph delay) = to_be_bytes w32 graph ++ to_be_bytes w32 delay

-- the request's body has samples, entries or a text, for which parsing allocates memory
abbrev pub HoldsSamples : Request → Type 0
HoldsSamples OpenContext = ⊥
HoldsSamples ReleaseContext = ⊥
HoldsSamples (CreateImage d) = ⊥
HoldsSamples (QueryImage image) = ⊥
HoldsSamples (WriteImage image picture) = ⊤
HoldsSamples (WriteImagePgm image text) = ⊤
HoldsSamples (ReadImage image) = ⊥
HoldsSamples (ReadImagePgm image) = ⊥
HoldsSamples (SetValid image rectangle) = ⊥
HoldsSamples (Release name) = ⊥
HoldsSamples (CreateLut lut) = ⊤
HoldsSamples (CreateThreshold threshold) = ⊥
HoldsSamples (CreateConvolution convolution) = ⊥
HoldsSamples (CreateDistribution bins) = ⊥
HoldsSamples (ReadDistribution name) = ⊥
HoldsSamples CreateMinMax = ⊥
HoldsSamples (ReadMinMax name) = ⊥
HoldsSamples CreateGraph = ⊥
HoldsSamples (CreateVirtualImage graph declared) = ⊥
HoldsSamples (AddNode graph node) = ⊥
HoldsSamples (RemoveNode graph number) = ⊥
HoldsSamples (VerifyGraph graph) = ⊥
HoldsSamples (ProcessGraph graph) = ⊥
HoldsSamples (Immediate node) = ⊥
HoldsSamples (CreateDelay exemplar slots) = ⊥
HoldsSamples (AgeDelay name) = ⊥
HoldsSamples (RegisterAutoAging graph delay) = ⊥
