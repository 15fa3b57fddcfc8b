-- The vertical radius of each function. OpenVX 1.3, "Vision Functions".
use Rattle.std.specs.Prelude.{ℕ, ◌/◌, Option, Some, None}
use Rattle.vx_base.specs.declared.function.Function.{Function}
use Rattle.vx_base.specs.declared.function.Function.TheVariants.{Box, Gaussian, Median, Erode, Dilate, Sobel, Histogram, Integral, MinMaxLoc}
use Rattle.vx_base.specs.Convolution.{ConvolutionValue}
use Rattle.vx_base.specs.Object.{ObjectValue, ConvolutionObject}

-- a node's second operand, if it is a matrix
abbrev pub matrix_in : Option ObjectValue → Option ConvolutionValue
matrix_in (Some (ConvolutionObject matrix)) = Some matrix
matrix_in other = None

-- a function's vertical radius r: for each output row, the function reads the same row of its first
-- input, r rows above it and r rows below it. In a second image or an accumulator, the function
-- reads only the same row. With a matrix, the radius is half the number of matrix rows, rounded
-- down. Without a matrix, the result is 1 for a 3x3 window, 0 for a pixel-wise function, and None
-- for a function that writes no image. It is also None for Integral, which reads all rows above.
abbrev pub window_radius : Function → Option ConvolutionValue → Option ℕ
window_radius function (Some matrix) = Some (matrix.rows / 2)
window_radius Box None = Some 1
window_radius Gaussian None = Some 1
window_radius Median None = Some 1
window_radius Erode None = Some 1
window_radius Dilate None = Some 1
window_radius Sobel None = Some 1
window_radius Integral None = None
window_radius Histogram None = None
window_radius MinMaxLoc None = None
window_radius other None = Some 0
