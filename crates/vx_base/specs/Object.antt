-- Objects that a client names and nodes use. OpenVX 1.3, "Object: Image", "Object: LUT", "Object:
-- Threshold", "Object: Delay", "Object: Convolution", "Object: Distribution", "Object: Graph".
use Rattle.std.specs.Prelude.{ℕ, ◌≡◌, ◌<◌, ◌≤◌, ◌^◌, Bool, true, false, IsTrue, ⊤, Option, Some, None, List, length, map, sum_by, All, replicate, pos}
use Rattle.std.specs.List.{AllPairs}
use Rattle.vx_base.specs.declared.format.Format.{Format}
use Rattle.vx_base.specs.declared.format.Format.TheVariants.{S16}
use Rattle.vx_base.specs.declared.extremes.Extremes.{Extremes}
use Rattle.vx_base.specs.declared.virtual_image.VirtualImage.{VirtualImage}
use Rattle.vx_base.specs.declared.kind.Kind.{Kind}
use Rattle.vx_base.specs.declared.kind.Kind.TheVariants as kind
use Rattle.vx_base.specs.Description.{byte_count}
use Rattle.vx_base.specs.Image.{ImageValue, IsImage, description_of}
use Rattle.vx_base.specs.PartialDescription.{IsPartialDescription}
use Rattle.vx_base.specs.Graph.{GraphValue, IsGraph}
use Rattle.vx_base.specs.Lut.{LutValue, IsLut}
use Rattle.vx_base.specs.Threshold.{ThresholdValue, IsThreshold}
use Rattle.vx_base.specs.Convolution.{ConvolutionValue, IsConvolution}
use Rattle.vx_base.specs.Statistics.{BinsValue, are_bins}

-- a histogram: its bins, and the number of samples counted in each
pub record DistributionValue : Type 0 where
  pub bins : BinsValue
  pub counts : List ℕ

-- an object of any kind; a delay is the list of its images, newest first
pub data ObjectValue : Type 0 where
  ImageObject : ImageValue → ObjectValue
  LutObject : LutValue → ObjectValue
  ThresholdObject : ThresholdValue → ObjectValue
  DelayObject : List ImageValue → ObjectValue
  ConvolutionObject : ConvolutionValue → ObjectValue
  DistributionObject : DistributionValue → ObjectValue
  ExtremesObject : Extremes → ObjectValue
  GraphObject : GraphValue → ObjectValue
  VirtualObject : VirtualImage → ObjectValue

-- whether two kinds are equal
abbrev pub same_kind : Kind → Kind → Bool
same_kind kind.Image kind.Image = true
same_kind kind.Lut kind.Lut = true
same_kind kind.Threshold kind.Threshold = true
same_kind kind.Delay kind.Delay = true
same_kind kind.Convolution kind.Convolution = true
same_kind kind.Distribution kind.Distribution = true
same_kind kind.Extremes kind.Extremes = true
same_kind kind.Graph kind.Graph = true
same_kind kind.VirtualImage kind.VirtualImage = true
same_kind a b = false

-- the kind of an object
abbrev pub object_kind : ObjectValue → Kind
object_kind (ImageObject image) = kind.Image
object_kind (LutObject lut) = kind.Lut
object_kind (ThresholdObject threshold) = kind.Threshold
object_kind (DelayObject images) = kind.Delay
object_kind (ConvolutionObject convolution) = kind.Convolution
object_kind (DistributionObject distribution) = kind.Distribution
object_kind (ExtremesObject extremes) = kind.Extremes
object_kind (GraphObject graph) = kind.Graph
object_kind (VirtualObject image) = kind.VirtualImage

-- the format of an image's samples, of a lookup table's entries, of the samples that a threshold
-- tests, or of a convolution's coefficients; None for all other kinds
abbrev pub object_format : ObjectValue → Option Format
object_format (ImageObject image) = Some image.format
object_format (LutObject lut) = Some lut.format
object_format (ThresholdObject threshold) = Some threshold.format
object_format (ConvolutionObject convolution) = Some S16
object_format other = None

-- the total size of an image's samples in bytes
abbrev pub image_bytes : ImageValue → ℕ
image_bytes image = byte_count (description_of image)

-- the bytes that an object takes from the client's quota: the size of an image's samples, or of the
-- samples of all images of a delay; 0 for all other kinds
abbrev pub object_bytes : ObjectValue → ℕ
object_bytes (ImageObject image) = image_bytes image
object_bytes (DelayObject images) = sum_by image_bytes images
object_bytes other = 0

-- ---- new objects

-- a distribution that has counted no sample
abbrev pub new_distribution : BinsValue → DistributionValue
new_distribution bins = record { bins = bins; counts = replicate bins.bins 0 }

-- the initial extremes: all 0
abbrev pub no_extremes : Extremes
no_extremes = record {
  min = pos 0;
  max = pos 0;
  min_count = 0;
  max_count = 0;
  min_at = (0, 0);
  max_at = (0, 0);
}

-- ---- well-formed objects

-- a delay of 1 to 16 images with the same description
pub record IsDelay (images : List ImageValue) : Type 0 where
  pub least : 1 ≤ length images
  pub greatest : length images ≤ 16
  pub each : All IsImage images
  pub alike : AllPairs (λ d e. d ≡ e) (map description_of images)

-- a distribution with permitted bins and one count for each bin
pub record IsDistribution (d : DistributionValue) : Type 0 where
  pub bins : IsTrue (are_bins d.bins.bins d.bins.offset d.bins.range)
  pub size : length d.counts ≡ d.bins.bins

-- a virtual image whose graph's name has 32 bits, and whose given sides are permitted
pub record IsVirtual (image : VirtualImage) : Type 0 where
  pub graph : image.graph < 2 ^ 32
  pub declared : IsPartialDescription image.declared

-- a well-formed object of any kind
abbrev pub IsObject : ObjectValue → Type 0
IsObject (ImageObject image) = IsImage image
IsObject (LutObject lut) = IsLut lut
IsObject (ThresholdObject threshold) = IsThreshold threshold
IsObject (DelayObject images) = IsDelay images
IsObject (ConvolutionObject convolution) = IsConvolution convolution
IsObject (DistributionObject distribution) = IsDistribution distribution
IsObject (ExtremesObject extremes) = ⊤
IsObject (GraphObject graph) = IsGraph graph
IsObject (VirtualObject image) = IsVirtual image
