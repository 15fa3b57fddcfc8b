-- The requests of clients.
use Rattle.std.specs.Prelude.{⊤, IsTrue, ◌<◌, ◌^◌, All}
use Rattle.vx_base.specs.Reference.{IsReference}
use Rattle.vx_base.specs.Description.{IsDescription}
use Rattle.vx_base.specs.Node.{IsNode}
use Rattle.vx_base.specs.PartialDescription.{IsPartialDescription}
use Rattle.vx_base.specs.Picture.{IsPicture}
use Rattle.vx_base.specs.Rectangle.{IsRectangle}
use Rattle.vx_base.specs.Lut.{IsLut}
use Rattle.vx_base.specs.Convolution.{IsConvolution}
use Rattle.vx_base.specs.Statistics.{are_bins}
use Rattle.vx_base.specs.Threshold.{IsThreshold}
use Rattle.vx_base.specs.Slots.{is_slot_count}
use Rattle.client_model.specs.declared.request.Request.{Request}
use Rattle.client_model.specs.declared.request.Request.TheVariants.{OpenContext, ReleaseContext, CreateImage, QueryImage, WriteImage, WriteImagePgm, ReadImage, ReadImagePgm, SetValid, Release, CreateLut, CreateThreshold, CreateConvolution, CreateDistribution, ReadDistribution, CreateMinMax, ReadMinMax, CreateGraph, CreateVirtualImage, AddNode, RemoveNode, VerifyGraph, ProcessGraph, Immediate, CreateDelay, AgeDelay, RegisterAutoAging}

-- the fields of a request are in the ranges of their types
abbrev pub IsRequest : Request → Type 0
IsRequest OpenContext = ⊤
IsRequest ReleaseContext = ⊤
IsRequest (CreateImage d) = IsDescription d
IsRequest (QueryImage cell) = IsReference cell
IsRequest (WriteImage cell picture) = IsReference cell × IsPicture picture
IsRequest (WriteImagePgm cell text) = IsReference cell × All (λ byte. byte < 2 ^ 8) text
IsRequest (ReadImage cell) = IsReference cell
IsRequest (ReadImagePgm cell) = IsReference cell
IsRequest (SetValid cell rectangle) = IsReference cell × IsRectangle rectangle
IsRequest (Release name) = name < 2 ^ 32
IsRequest (CreateLut lut) = IsLut lut
IsRequest (CreateThreshold threshold) = IsThreshold threshold
IsRequest (CreateConvolution convolution) = IsConvolution convolution
IsRequest (CreateDistribution bins) = IsTrue (are_bins bins.bins bins.offset bins.range)
IsRequest (ReadDistribution name) = name < 2 ^ 32
IsRequest CreateMinMax = ⊤
IsRequest (ReadMinMax name) = name < 2 ^ 32
IsRequest CreateGraph = ⊤
IsRequest (CreateVirtualImage graph declared) = (graph < 2 ^ 32) × IsPartialDescription declared
IsRequest (AddNode graph node) = (graph < 2 ^ 32) × IsNode node
IsRequest (RemoveNode graph number) = (graph < 2 ^ 32) × (number < 2 ^ 32)
IsRequest (VerifyGraph graph) = graph < 2 ^ 32
IsRequest (ProcessGraph graph) = graph < 2 ^ 32
IsRequest (Immediate node) = IsNode node
IsRequest (CreateDelay cell slots) = IsReference cell × IsTrue (is_slot_count slots)
IsRequest (AgeDelay name) = name < 2 ^ 32
IsRequest (RegisterAutoAging graph delay) = (graph < 2 ^ 32) × (delay < 2 ^ 32)

-- computing a `Reply` to the request may allocate memory, and so may fail with NoMemory
abbrev pub TakesMemory : Request → Type 0
TakesMemory OpenContext = ⊤
TakesMemory ReleaseContext = ⊥
TakesMemory (CreateImage d) = ⊤
TakesMemory (QueryImage cell) = ⊥
TakesMemory (WriteImage cell picture) = ⊥
TakesMemory (WriteImagePgm cell text) = ⊤
TakesMemory (ReadImage cell) = ⊤
TakesMemory (ReadImagePgm cell) = ⊤
TakesMemory (SetValid cell rectangle) = ⊥
TakesMemory (Release name) = ⊥
TakesMemory (CreateLut lut) = ⊤
TakesMemory (CreateThreshold threshold) = ⊤
TakesMemory (CreateConvolution convolution) = ⊤
TakesMemory (CreateDistribution bins) = ⊤
TakesMemory (ReadDistribution name) = ⊤
TakesMemory CreateMinMax = ⊤
TakesMemory (ReadMinMax name) = ⊥
TakesMemory CreateGraph = ⊤
TakesMemory (CreateVirtualImage graph declared) = ⊤
TakesMemory (AddNode graph node) = ⊤
TakesMemory (RemoveNode graph number) = ⊥
TakesMemory (VerifyGraph graph) = ⊤
TakesMemory (ProcessGraph graph) = ⊤
TakesMemory (Immediate node) = ⊥
TakesMemory (CreateDelay cell slots) = ⊤
TakesMemory (AgeDelay name) = ⊥
TakesMemory (RegisterAutoAging graph delay) = ⊤
