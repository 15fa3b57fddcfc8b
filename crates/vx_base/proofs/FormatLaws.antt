-- An open output's format is one that the function writes.
use Rattle.std.proofs.Common.{Option, Some, None, IsTrue, refl}
use Rattle.vx_base.proofs.Common.{Format, U8, S16, U32, Function, AndBits, OrBits, XorBits, NotBits, Add, Subtract, Multiply, AbsoluteDifference, MinPixel, MaxPixel, Threshold, TableLookup, ConvertDepth, Box, Gaussian, Median, Erode, Dilate, Sobel, Convolve, Histogram, Integral, MinMaxLoc, Accumulate, AccumulateSquare, takes_formats}
use Rattle.vx_base.specs.Formats.{are_bytes, are_equal, are_arithmetic, open_format}

bytes : (a b g : Format) → IsTrue (are_bytes a b g) → IsTrue (are_bytes a b U8)
bytes U8 U8 g is = refl
bytes a b g is = is

equal : (a b g : Format) → IsTrue (are_equal a b g) → IsTrue (are_equal a b a)
equal U8 U8 g is = refl
equal S16 S16 g is = refl
equal a b g is = cc

arithmetic : (a b g : Format) → IsTrue (are_arithmetic a b g) → IsTrue (are_arithmetic a b S16)
arithmetic U8 U8 g is = refl
arithmetic U8 S16 g is = refl
arithmetic S16 U8 g is = refl
arithmetic S16 S16 g is = refl
arithmetic a b g is = cc

pub open_formats : (function : Function) (first output : Format) (second : Option Format)
    → IsTrue (takes_formats function first second (Some output))
    → IsTrue (takes_formats function first second (Some (open_format function first)))
open_formats AndBits a g (Some b) is = bytes a b g is
open_formats OrBits a g (Some b) is = bytes a b g is
open_formats XorBits a g (Some b) is = bytes a b g is
open_formats Add a g (Some b) is = arithmetic a b g is
open_formats Subtract a g (Some b) is = arithmetic a b g is
open_formats Multiply a g (Some b) is = arithmetic a b g is
open_formats AbsoluteDifference a g (Some b) is = equal a b g is
open_formats MinPixel a g (Some b) is = equal a b g is
open_formats MaxPixel a g (Some b) is = equal a b g is
open_formats TableLookup a g (Some b) is = equal a b g is
open_formats NotBits U8 g None is = refl
open_formats Threshold U8 g (Some U8) is = refl
open_formats Threshold S16 g (Some S16) is = refl
open_formats ConvertDepth U8 g None is = refl
open_formats ConvertDepth S16 g None is = refl
open_formats Box U8 g None is = refl
open_formats Gaussian U8 g None is = refl
open_formats Median U8 g None is = refl
open_formats Erode U8 g None is = refl
open_formats Dilate U8 g None is = refl
open_formats Sobel U8 g None is = refl
open_formats Convolve U8 g (Some S16) is = refl
open_formats Integral U8 g None is = refl
open_formats Accumulate U8 g None is = refl
open_formats AccumulateSquare U8 g None is = refl
open_formats function U8 g None is = cc
open_formats function U8 g (Some U8) is = cc
open_formats function U8 g (Some S16) is = cc
open_formats function U8 g (Some U32) is = cc
open_formats function S16 g None is = cc
open_formats function S16 g (Some U8) is = cc
open_formats function S16 g (Some S16) is = cc
open_formats function S16 g (Some U32) is = cc
open_formats AndBits U32 g second is = cc
open_formats OrBits U32 g second is = cc
open_formats XorBits U32 g second is = cc
open_formats NotBits U32 g second is = cc
open_formats Add U32 g second is = cc
open_formats Subtract U32 g second is = cc
open_formats Multiply U32 g second is = cc
open_formats AbsoluteDifference U32 g second is = cc
open_formats MinPixel U32 g second is = cc
open_formats MaxPixel U32 g second is = cc
open_formats Threshold U32 g second is = cc
open_formats TableLookup U32 g second is = cc
open_formats ConvertDepth U32 g second is = cc
open_formats Box U32 g second is = cc
open_formats Gaussian U32 g second is = cc
open_formats Median U32 g second is = cc
open_formats Erode U32 g second is = cc
open_formats Dilate U32 g second is = cc
open_formats Sobel U32 g second is = cc
open_formats Convolve U32 g second is = cc
open_formats Histogram U32 g second is = cc
open_formats Integral U32 g second is = cc
open_formats MinMaxLoc U32 g second is = cc
open_formats Accumulate U32 g second is = cc
open_formats AccumulateSquare U32 g second is = cc
