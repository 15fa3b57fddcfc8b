-- The vision functions: their numbers and their parameters. OpenVX 1.3, "Vision Functions".
use Rattle.std.specs.Prelude.{ℕ, Bool, ◌==◌, true, false, List, [], ◌∷◌, find, Option, Some, None}
use Rattle.vx_base.specs.declared.function.Function.{Function}
use Rattle.vx_base.specs.declared.function.Function.TheVariants.{AndBits, OrBits, XorBits, NotBits, Add, Subtract, Multiply, AbsoluteDifference, MinPixel, MaxPixel, Threshold, TableLookup, ConvertDepth, Box, Gaussian, Median, Erode, Dilate, Sobel, Convolve, Histogram, Integral, MinMaxLoc, Accumulate, AccumulateSquare}
use Rattle.vx_base.specs.declared.function.Parameters.{Parameters}
use Rattle.vx_base.specs.declared.kind.Kind.{Kind}
use Rattle.vx_base.specs.declared.kind.Kind.TheVariants as kind

-- the function's number in this project's protocol
abbrev pub function_number : Function → ℕ
function_number AndBits = 1
function_number OrBits = 2
function_number XorBits = 3
function_number NotBits = 4
function_number Add = 5
function_number Subtract = 6
function_number Multiply = 7
function_number AbsoluteDifference = 8
function_number MinPixel = 9
function_number MaxPixel = 10
function_number Threshold = 11
function_number TableLookup = 12
function_number ConvertDepth = 13
function_number Box = 14
function_number Gaussian = 15
function_number Median = 16
function_number Erode = 17
function_number Dilate = 18
function_number Sobel = 19
function_number Convolve = 20
function_number Histogram = 21
function_number Integral = 22
function_number MinMaxLoc = 23
function_number Accumulate = 24
function_number AccumulateSquare = 25

-- all functions, in the order of their numbers
abbrev pub functions : List Function
functions =
    AndBits
    ∷ OrBits
    ∷ XorBits
    ∷ NotBits
    ∷ Add
    ∷ Subtract
    ∷ Multiply
    ∷ AbsoluteDifference
    ∷ MinPixel
    ∷ MaxPixel
    ∷ Threshold
    ∷ TableLookup
    ∷ ConvertDepth
    ∷ Box
    ∷ Gaussian
    ∷ Median
    ∷ Erode
    ∷ Dilate
    ∷ Sobel
    ∷ Convolve
    ∷ Histogram
    ∷ Integral
    ∷ MinMaxLoc
    ∷ Accumulate
    ∷ AccumulateSquare
    ∷ []

-- the function with this number
abbrev pub function_numbered : ℕ → Option Function
function_numbered n = find (λ function. function_number function == n) functions

-- ---- a function's parameters, other than the border and the first input, which is always an image

-- one input image and one output image
abbrev pub of_one_image : Parameters
of_one_image = record {
  second_input = None;
  policy = false;
  greatest_amount = None;
  output = kind.Image;
  output_pair = false;
}

-- one input image, a second input of this kind, and one output image
abbrev pub of_two_operands : Kind → Parameters
of_two_operands second = record of_one_image { second_input = Some second }

-- two input images, an overflow policy, and one output image
abbrev pub of_arithmetic : Parameters
of_arithmetic = record (of_two_operands kind.Image) { policy = true }

-- the parameters of each function
abbrev pub parameters : Function → Parameters
parameters AndBits = of_two_operands kind.Image
parameters OrBits = of_two_operands kind.Image
parameters XorBits = of_two_operands kind.Image
parameters NotBits = of_one_image
parameters Add = of_arithmetic
parameters Subtract = of_arithmetic
parameters Multiply = record of_arithmetic { greatest_amount = Some 15 }
parameters AbsoluteDifference = of_two_operands kind.Image
parameters MinPixel = of_two_operands kind.Image
parameters MaxPixel = of_two_operands kind.Image
parameters Threshold = of_two_operands kind.Threshold
parameters TableLookup = of_two_operands kind.Lut
parameters ConvertDepth = record of_one_image { policy = true; greatest_amount = Some 7 }
parameters Box = of_one_image
parameters Gaussian = of_one_image
parameters Median = of_one_image
parameters Erode = of_one_image
parameters Dilate = of_one_image
parameters Sobel = record of_one_image { output_pair = true }
parameters Convolve = of_two_operands kind.Convolution
parameters Histogram = record of_one_image { output = kind.Distribution }
parameters Integral = of_one_image
parameters MinMaxLoc = record of_one_image { output = kind.Extremes }
parameters Accumulate = of_one_image
parameters AccumulateSquare = record of_one_image { greatest_amount = Some 15 }

-- whether the function adds to its output image. The image's samples from before the run are then
-- an operand too.
abbrev pub accumulates : Function → Bool
accumulates Accumulate = true
accumulates AccumulateSquare = true
accumulates other = false
