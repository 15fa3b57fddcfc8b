-- What a node gives of images, tables and thresholds is an image.
use Rattle.std.proofs.Common.{◌≡◌, ℕ, ℤ, IsTrue, ◌<◌, ◌≤◌, ◌-ℤ◌, pos, Bool, true, false, if◌then◌else◌, refl, arith, ◌⊎◌, inl, inr, length, List, Option, Some, None, IfSome, All, ◌&&◌, slice_index_or, unsigned_abs}
use Rattle.vx_base.proofs.Common.{Each1, ints, Format, U8, S16, U32, Function, AndBits, NotBits, Threshold, TableLookup, ConvertDepth, Box, Gaussian, Median, Erode, Dilate, Sobel, Convolve, Histogram, Integral, MinMaxLoc, Accumulate, AccumulateSquare, IsSample, min_sample, parameters, accumulates, takes_formats, has_amount, ImageValue, IsImage, from_nine, from_one, formula_of_one, formula_of_two}
use Rattle.std.specs.Option.{option_and_then}
use Rattle.std.proofs.lemmas.Bool.{cases_lt}
use Rattle.std.proofs.lemmas.List.{get_or_past}
use Rattle.vx_base.specs.declared.node.Node.{Node}
use Rattle.vx_base.specs.declared.kind.Kind.{Kind}
use Rattle.vx_base.specs.declared.kind.Kind.TheVariants as kind
use Rattle.vx_base.specs.Node.{is_node, IsNode}
use Rattle.vx_base.specs.Lut.{LutValue, IsLut}
use Rattle.vx_base.specs.Threshold.{ThresholdValue, IsThreshold, passes}
use Rattle.vx_base.specs.Object.{ObjectValue, ImageObject, LutObject, ThresholdObject, DelayObject, ConvolutionObject, DistributionObject, ExtremesObject, GraphObject, VirtualObject, IsObject, object_kind, same_kind, object_format}
use Rattle.vx_base.specs.declared.output.Output.{Output}
use Rattle.vx_base.specs.declared.output.Output.TheVariants.{First, Second}
use Rattle.vx_base.specs.Window.{formula_of_nine}
use Rattle.vx_base.specs.Outputs.{node_image, image_of_one}
use Rattle.vx_base.specs.Pixelwise.{lookup_result, threshold_result}
use Rattle.vx_base.proofs.ResultLaws.{of_one, of_two, accumulated_is, not_so, zero_sample}
use Rattle.vx_base.proofs.PixelLaws.{from_one_is, from_two_is}
use Rattle.vx_base.proofs.SumLaws.{sums_image}
use Rattle.vx_base.proofs.WindowLaws.{box_sample, gaussian_sample, median_sample, least_sample, greatest_sample, gradient_x_sample, gradient_y_sample, nine_image, matrix_image}

amount_of : (n : Node)
    → IsTrue (is_node n)
    → IsTrue (has_amount (parameters n.function) n.policy n.amount)
amount_of n shape = front (has_amount (parameters n.function) n.policy n.amount) _ shape
  where
    front : (p q : Bool) → IsTrue (p && q) → IsTrue p
    front true q h = refl
    front false q h = h

-- ---- second operands that aren't images

-- no entry, or past them 0, is anything but a sample
looked_up_sample : (lut : LutValue) (a : ℤ)
    → All (IsSample lut.format) lut.entries
    → IsSample lut.format (lookup_result lut a)
looked_up_sample lut a entries =
    entry_sample lut.format lut.entries (unsigned_abs (a -ℤ min_sample lut.format)) entries
  where
    entry_sample : (format : Format) (entries : List ℤ) (k : ℕ)
        → All (IsSample format) entries
        → IsSample format (slice_index_or entries k (pos 0))
    entry_sample format entries k all = there_or_past (cases_lt k (length entries))
      where
        there_or_past : (k < length entries) ⊎ (length entries ≤ k)
            → IsSample format (slice_index_or entries k (pos 0))
        there_or_past (inl below) = all k (pos 0) below
        there_or_past (inr past) = rw (get_or_past entries k (pos 0) past) (zero_sample format)

thresholded_sample : (t : ThresholdValue) (a : ℤ)
    → IsThreshold t
    → IsSample U8 (threshold_result t a)
thresholded_sample t a h = chosen (passes t.kind a)
  where
    chosen : (b : Bool) → IsSample U8 (if b then pos t.true_value else pos t.false_value)
    chosen true = record {
      at_least = omega (arith, ints);
      at_most = omega (arith, ints, h.true_value);
    }
    chosen false = record {
      at_least = omega (arith, ints);
      at_most = omega (arith, ints, h.false_value);
    }

is_lookup : (function : Function)
    → (parameters function).second_input ≡ Some kind.Lut
    → function ≡ TableLookup
is_lookup TableLookup h = refl
is_lookup other h = cc

is_threshold : (function : Function)
    → (parameters function).second_input ≡ Some kind.Threshold
    → function ≡ Threshold
is_threshold Threshold h = refl
is_threshold other h = cc

-- kinds that pass the test are one
pub same_kind_equal : (a b : Kind) → same_kind a b ≡ true → a ≡ b
same_kind_equal kind.Image kind.Image h = refl
same_kind_equal kind.Lut kind.Lut h = refl
same_kind_equal kind.Threshold kind.Threshold h = refl
same_kind_equal kind.Delay kind.Delay h = refl
same_kind_equal kind.Convolution kind.Convolution h = refl
same_kind_equal kind.Distribution kind.Distribution h = refl
same_kind_equal kind.Extremes kind.Extremes h = refl
same_kind_equal kind.Graph kind.Graph h = refl
same_kind_equal kind.VirtualImage kind.VirtualImage h = refl
same_kind_equal a b h = cc

-- no function reads a delay as a whole
pub takes_no_delay : (function : Function)
    → (parameters function).second_input ≡ Some kind.Delay
    → ⊥
takes_no_delay AndBits h = cc
takes_no_delay other h = cc

lookup_format : (first second output : Format)
    → IsTrue (takes_formats TableLookup first (Some second) (Some output))
    → second ≡ output
lookup_format U8 U8 U8 h = refl
lookup_format S16 S16 S16 h = refl
lookup_format first second output h = not_so h

threshold_format : (first second output : Format)
    → IsTrue (takes_formats Threshold first (Some second) (Some output))
    → U8 ≡ output
threshold_format U8 U8 U8 h = refl
threshold_format S16 S16 U8 h = refl
threshold_format first second output h = not_so h

-- ---- nodes

-- functions of the samples around each place, and those that accumulate, which give 0 of an image
-- alone
abbrev is_window : Function → Bool
is_window Box = true
is_window Gaussian = true
is_window Median = true
is_window Erode = true
is_window Dilate = true
is_window Sobel = true
is_window Accumulate = true
is_window AccumulateSquare = true
is_window other = false

abbrev GivesSamples : Format → (List ℤ → ℤ) → Type 0
GivesSamples format f =
    (zs : List ℤ) → length zs ≡ 9 → Each1 (IsSample U8) zs → IsSample format (f zs)

nine_gives : (function : Function) (output : Output) (first format : Format)
    → IsTrue (is_window function && takes_formats function first None (Some format))
    → (first ≡ U8) × GivesSamples format (formula_of_nine function output)
nine_gives Box output U8 U8 t = (refl, box_sample)
nine_gives Gaussian output U8 U8 t = (refl, λ zs long s. gaussian_sample zs s)
nine_gives Median output U8 U8 t = (refl, λ zs long s. median_sample zs s)
nine_gives Erode output U8 U8 t = (refl, λ zs long s. least_sample zs s)
nine_gives Dilate output U8 U8 t = (refl, λ zs long s. greatest_sample zs s)
nine_gives Sobel First U8 S16 t = (refl, λ zs long s. gradient_x_sample zs s)
nine_gives Sobel Second U8 S16 t = (refl, λ zs long s. gradient_y_sample zs s)
nine_gives Accumulate output U8 S16 t = (refl, λ zs long s. zero_sample S16)
nine_gives AccumulateSquare output U8 S16 t = (refl, λ zs long s. zero_sample S16)
nine_gives function output first format t = not_so t

-- functions that make no image of one image alone
abbrev is_no_maker : Function → Bool
is_no_maker Threshold = true
is_no_maker Convolve = true
is_no_maker Histogram = true
is_no_maker MinMaxLoc = true
is_no_maker other = false

makes_no_image : (function : Function) (first format : Format)
    → IsTrue (is_no_maker function && takes_formats function first None (Some format))
    → ⊥
makes_no_image Threshold U8 format t = not_so t
makes_no_image Threshold S16 format t = not_so t
makes_no_image Convolve U8 format t = not_so t
makes_no_image Histogram U8 format t = not_so t
makes_no_image MinMaxLoc U8 format t = not_so t
makes_no_image MinMaxLoc S16 format t = not_so t
makes_no_image function first format t = not_so t

integral_of : (first format : Format)
    → IsTrue (takes_formats Integral first None (Some format))
    → U32 ≡ format
integral_of U8 U32 t = refl
integral_of first format t = not_so t

-- no function reads counts or extremes
pub takes_no_distribution : (function : Function)
    → (parameters function).second_input ≡ Some kind.Distribution
    → ⊥
takes_no_distribution AndBits h = cc
takes_no_distribution other h = cc

pub takes_no_extremes : (function : Function)
    → (parameters function).second_input ≡ Some kind.Extremes
    → ⊥
takes_no_extremes AndBits h = cc
takes_no_extremes other h = cc

-- no function has a graph or a virtual image as its second operand
pub takes_no_graph : (function : Function)
    → (parameters function).second_input ≡ Some kind.Graph
    → ⊥
takes_no_graph AndBits h = cc
takes_no_graph other h = cc

pub takes_no_virtual : (function : Function)
    → (parameters function).second_input ≡ Some kind.VirtualImage
    → ⊥
takes_no_virtual AndBits h = cc
takes_no_virtual other h = cc

module _ (n : Node) (format : Format) (a : ImageValue) (is : IsNode n) (image : IsImage a) where
  of_lut : (lut : LutValue)
      → IsLut lut
      → n.function ≡ TableLookup
      → IsTrue (takes_formats n.function a.format (Some lut.format) (Some format))
      → IsImage (from_one format (lookup_result lut) a)
  of_lut lut h f t =
      let e : lut.format ≡ format = lookup_format a.format lut.format format (rw f at t) in
      from_one_is format (lookup_result lut) a image
      (λ z s. rw (← e) (looked_up_sample lut z h.sampled))

  of_threshold : (t : ThresholdValue)
      → IsThreshold t
      → n.function ≡ Threshold
      → IsTrue (takes_formats n.function a.format (Some t.format) (Some format))
      → IsImage (from_one format (threshold_result t) a)
  of_threshold t h f g =
      let e : U8 ≡ format = threshold_format a.format t.format format (rw f at g) in
      from_one_is format (threshold_result t) a image (λ z s. rw (← e) (thresholded_sample t z h))

  -- one of the functions of the nine
  of_nine : (function : Function) (output : Output)
      → IsTrue (is_window function && takes_formats function a.format None (Some format))
      → IsImage (from_nine format (formula_of_nine function output) n.border a)
  of_nine function output t =
      let gives = nine_gives function output a.format format t in
      nine_image format (formula_of_nine function output) n.border a gives.1 image gives.0 is.border

  of_one_image : (function : Function) (output : Output)
      → IsTrue (has_amount (parameters function) n.policy n.amount)
      → IsTrue (takes_formats function a.format None (Some format))
      → IsImage (image_of_one function n output format a)
  of_one_image NotBits output h t =
      from_one_is format (formula_of_one NotBits format n.policy n.amount) a image
      (λ z s. of_one NotBits a.format format n.policy n.amount z t h s)
  of_one_image ConvertDepth output h t =
      from_one_is format (formula_of_one ConvertDepth format n.policy n.amount) a image
      (λ z s. of_one ConvertDepth a.format format n.policy n.amount z t h s)
  of_one_image Integral output h t = sums_image a image format (integral_of a.format format t)
  of_one_image Box output h t = of_nine Box output t
  of_one_image Gaussian output h t = of_nine Gaussian output t
  of_one_image Median output h t = of_nine Median output t
  of_one_image Erode output h t = of_nine Erode output t
  of_one_image Dilate output h t = of_nine Dilate output t
  of_one_image Sobel output h t = of_nine Sobel output t
  of_one_image Accumulate output h t = of_nine Accumulate output t
  of_one_image AccumulateSquare output h t = of_nine AccumulateSquare output t
  of_one_image Convolve output h t = absurd (makes_no_image Convolve a.format format t)
  of_one_image Threshold output h t = absurd (makes_no_image Threshold a.format format t)
  of_one_image Histogram output h t = absurd (makes_no_image Histogram a.format format t)
  of_one_image MinMaxLoc output h t = absurd (makes_no_image MinMaxLoc a.format format t)
  of_one_image function output h t = not_so t

  pub node_image_is : (output : Output) (second : Option ObjectValue)
      → IfSome second IsObject
      → IfSome second (λ object. (parameters n.function).second_input ≡ Some (object_kind object))
      → IsTrue
      (takes_formats n.function a.format (option_and_then object_format second) (Some format))
      → IsImage (node_image n output format a second)
  node_image_is output None h k t = of_one_image n.function output (amount_of n is.shape) t
  node_image_is output (Some (ImageObject b)) h k t =
      from_two_is format (formula_of_two n.function format n.policy n.amount) a b image h
      (λ y z p q. of_two n.function a.format b.format format n.policy n.amount y z t p q)
  node_image_is output (Some (LutObject lut)) h k t = of_lut lut h (is_lookup n.function k) t
  node_image_is output (Some (ThresholdObject threshold)) h k t =
      of_threshold threshold h (is_threshold n.function k) t
  node_image_is output (Some (ConvolutionObject convolution)) h k t =
      matrix_image format convolution n.border a image
  node_image_is output (Some (DelayObject images)) h k t = absurd (takes_no_delay n.function k)
  node_image_is output (Some (DistributionObject distribution)) h k t =
      absurd (takes_no_distribution n.function k)
  node_image_is output (Some (ExtremesObject extremes)) h k t =
      absurd (takes_no_extremes n.function k)
  node_image_is output (Some (GraphObject graph)) h k t = absurd (takes_no_graph n.function k)
  node_image_is output (Some (VirtualObject image)) h k t = absurd (takes_no_virtual n.function k)

  -- an accumulating function gives an image, whatever its output was before
  pub accumulated_image_is : (output : Output) (old : ImageValue)
      → accumulates n.function ≡ true
      → IsImage old
      → IsImage (node_image n output format a (Some (ImageObject old)))
  accumulated_image_is output old h is_old =
      from_two_is format (formula_of_two n.function format n.policy n.amount) a old image is_old
      (λ y z p q. accumulated_is n.function format n.policy n.amount y z h)
