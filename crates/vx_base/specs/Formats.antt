-- The formats that each function takes: a subset of the standard's formats, chosen by this project.
use Rattle.std.specs.Prelude.{Bool, true, false, Option, Some, None}
use Rattle.vx_base.specs.declared.format.Format.{Format}
use Rattle.vx_base.specs.declared.format.Format.TheVariants.{U8, S16, U32}
use Rattle.vx_base.specs.declared.function.Function.{Function}
use Rattle.vx_base.specs.declared.function.Function.TheVariants.{AndBits, OrBits, XorBits, NotBits, Add, Subtract, Multiply, AbsoluteDifference, MinPixel, MaxPixel, Threshold, TableLookup, ConvertDepth, Box, Gaussian, Median, Erode, Dilate, Sobel, Convolve, Histogram, Integral, MinMaxLoc, Accumulate, AccumulateSquare}

-- whether all three formats are U8: both inputs' and the output's
abbrev pub are_bytes : Format → Format → Format → Bool
are_bytes U8 U8 U8 = true
are_bytes a b g = false

-- whether all three formats are U8, or all are S16
abbrev pub are_equal : Format → Format → Format → Bool
are_equal U8 U8 U8 = true
are_equal S16 S16 S16 = true
are_equal a b g = false

-- whether all three formats are U8, or the output is S16 and each input is U8 or S16
abbrev pub are_arithmetic : Format → Format → Format → Bool
are_arithmetic U8 U8 U8 = true
are_arithmetic U8 U8 S16 = true
are_arithmetic U8 S16 S16 = true
are_arithmetic S16 U8 S16 = true
are_arithmetic S16 S16 S16 = true
are_arithmetic a b g = false

-- whether a function takes these formats: first input, second input, output. The second input may
-- be a lookup table, a threshold or a convolution. Its format is then the format of the entries, of
-- the tested samples, or of the coefficients. None means that the operand is absent or has no
-- format.
abbrev pub takes_formats : Function → Format → Option Format → Option Format → Bool
takes_formats AndBits a (Some b) (Some g) = are_bytes a b g
takes_formats OrBits a (Some b) (Some g) = are_bytes a b g
takes_formats XorBits a (Some b) (Some g) = are_bytes a b g
takes_formats NotBits U8 None (Some U8) = true
takes_formats Add a (Some b) (Some g) = are_arithmetic a b g
takes_formats Subtract a (Some b) (Some g) = are_arithmetic a b g
takes_formats Multiply a (Some b) (Some g) = are_arithmetic a b g
takes_formats AbsoluteDifference a (Some b) (Some g) = are_equal a b g
takes_formats MinPixel a (Some b) (Some g) = are_equal a b g
takes_formats MaxPixel a (Some b) (Some g) = are_equal a b g
takes_formats Threshold U8 (Some U8) (Some U8) = true
takes_formats Threshold S16 (Some S16) (Some U8) = true
takes_formats TableLookup a (Some b) (Some g) = are_equal a b g
takes_formats ConvertDepth U8 None (Some S16) = true
takes_formats ConvertDepth S16 None (Some U8) = true
takes_formats Box U8 None (Some U8) = true
takes_formats Gaussian U8 None (Some U8) = true
takes_formats Median U8 None (Some U8) = true
takes_formats Erode U8 None (Some U8) = true
takes_formats Dilate U8 None (Some U8) = true
takes_formats Sobel U8 None (Some S16) = true
takes_formats Convolve U8 (Some S16) (Some U8) = true
takes_formats Convolve U8 (Some S16) (Some S16) = true
takes_formats Histogram U8 None None = true
takes_formats Integral U8 None (Some U32) = true
takes_formats MinMaxLoc U8 None None = true
takes_formats MinMaxLoc S16 None None = true
takes_formats Accumulate U8 None (Some S16) = true
takes_formats AccumulateSquare U8 None (Some S16) = true
takes_formats function a second output = false

-- the format that an output image gets if its own format is open, given the format of the node's
-- first input. Unused for a function that writes no image.
abbrev pub open_format : Function → Format → Format
open_format Add first = S16
open_format Subtract first = S16
open_format Multiply first = S16
open_format AbsoluteDifference first = first
open_format MinPixel first = first
open_format MaxPixel first = first
open_format TableLookup first = first
open_format ConvertDepth S16 = U8
open_format ConvertDepth first = S16
open_format Sobel first = S16
open_format Convolve first = S16
open_format Integral first = U32
open_format Accumulate first = S16
open_format AccumulateSquare first = S16
open_format function first = U8
