-- Ops, and their numbers. The numbers are this project's own.
use Rattle.std.specs.Prelude.{ℕ, List, [], ◌∷◌, Option}
use Rattle.client_model.specs.declared.request.Request.{Request}
use Rattle.client_model.specs.declared.request.Request.TheVariants as requests
use Rattle.vx_wire.specs.Numbered.{with_number}
use Rattle.vx_wire.specs.declared.op.Op.{Op}
use Rattle.vx_wire.specs.declared.op.Op.TheVariants.{OpenContext, ReleaseContext, CreateImage, QueryImage, WriteImage, WriteImagePgm, ReadImage, ReadImagePgm, SetValid, Release, CreateLut, CreateThreshold, CreateConvolution, CreateDistribution, ReadDistribution, CreateMinMax, ReadMinMax, CreateGraph, CreateVirtualImage, AddNode, RemoveNode, VerifyGraph, ProcessGraph, Immediate, CreateDelay, AgeDelay, RegisterAutoAging}

-- the number of an op
abbrev pub op_number : Op → ℕ
op_number OpenContext = 1
op_number ReleaseContext = 2
op_number CreateImage = 3
op_number QueryImage = 4
op_number WriteImage = 5
op_number WriteImagePgm = 6
op_number ReadImage = 7
op_number ReadImagePgm = 8
op_number SetValid = 9
op_number Release = 10
op_number CreateLut = 11
op_number CreateThreshold = 12
op_number CreateConvolution = 13
op_number CreateDistribution = 14
op_number ReadDistribution = 15
op_number CreateMinMax = 16
op_number ReadMinMax = 17
op_number CreateGraph = 18
op_number CreateVirtualImage = 19
op_number AddNode = 20
op_number RemoveNode = 21
op_number VerifyGraph = 22
op_number ProcessGraph = 23
op_number Immediate = 24
op_number CreateDelay = 25
op_number AgeDelay = 26
op_number RegisterAutoAging = 27

-- all ops, in the order of their numbers
abbrev pub ops : List Op
ops =
    OpenContext
    ∷ ReleaseContext
    ∷ CreateImage
    ∷ QueryImage
    ∷ WriteImage
    ∷ WriteImagePgm
    ∷ ReadImage
    ∷ ReadImagePgm
    ∷ SetValid
    ∷ Release
    ∷ CreateLut
    ∷ CreateThreshold
    ∷ CreateConvolution
    ∷ CreateDistribution
    ∷ ReadDistribution
    ∷ CreateMinMax
    ∷ ReadMinMax
    ∷ CreateGraph
    ∷ CreateVirtualImage
    ∷ AddNode
    ∷ RemoveNode
    ∷ VerifyGraph
    ∷ ProcessGraph
    ∷ Immediate ∷ CreateDelay ∷ AgeDelay ∷ RegisterAutoAging ∷ []

-- the op with this number
abbrev pub op_numbered : ℕ → Option Op
op_numbered n = with_number op_number ops n

-- the op of a request
abbrev pub op_of : Request → Op
op_of requests.OpenContext = OpenContext
op_of requests.ReleaseContext = ReleaseContext
op_of (requests.CreateImage d) = CreateImage
op_of (requests.QueryImage cell) = QueryImage
op_of (requests.WriteImage cell picture) = WriteImage
op_of (requests.WriteImagePgm cell text) = WriteImagePgm
op_of (requests.ReadImage cell) = ReadImage
op_of (requests.ReadImagePgm cell) = ReadImagePgm
op_of (requests.SetValid cell rectangle) = SetValid
op_of (requests.Release name) = Release
op_of (requests.CreateLut lut) = CreateLut
op_of (requests.CreateThreshold threshold) = CreateThreshold
op_of (requests.CreateConvolution convolution) = CreateConvolution
op_of (requests.CreateDistribution bins) = CreateDistribution
op_of (requests.ReadDistribution name) = ReadDistribution
op_of requests.CreateMinMax = CreateMinMax
op_of (requests.ReadMinMax name) = ReadMinMax
op_of requests.CreateGraph = CreateGraph
op_of (requests.CreateVirtualImage graph declared) = CreateVirtualImage
op_of (requests.AddNode graph node) = AddNode
op_of (requests.RemoveNode graph number) = RemoveNode
op_of (requests.VerifyGraph graph) = VerifyGraph
op_of (requests.ProcessGraph graph) = ProcessGraph
op_of (requests.Immediate node) = Immediate
op_of (requests.CreateDelay exemplar slots) = CreateDelay
op_of (requests.AgeDelay name) = AgeDelay
op_of (requests.RegisterAutoAging graph delay) = RegisterAutoAging
