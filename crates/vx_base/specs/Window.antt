-- Window functions: each output sample depends on the input samples around the same pixel. OpenVX
-- 1.3, "Vision Functions" and `vx_border_e`; the words in quotation marks are the names of its
-- sections.
use Rattle.std.specs.Prelude.{ℕ, ℤ, pos, negsuc, ◌+ℤ◌, ◌-ℤ◌, ◌*ℤ◌, Bool, ◌&&◌, List, [], ◌∷◌, if◌then◌else◌, int_lt, int_le, nat_le, unsigned_abs, unwrap_or, ◌/◌, ◌^◌, int_div, map}
use Rattle.std.specs.Int.{int_div_euclid, int_min, int_max}
use Rattle.std.specs.List.{count_by, find, fold, range_with_len}
use Rattle.vx_base.specs.declared.format.Format.{Format}
use Rattle.vx_base.specs.declared.border.Border.{Border}
use Rattle.vx_base.specs.declared.border.Border.TheVariants.{Undefined, Constant, Replicate}
use Rattle.vx_base.specs.declared.function.Function.{Function}
use Rattle.vx_base.specs.declared.function.Function.TheVariants.{Box, Gaussian, Median, Erode, Dilate, Sobel}
use Rattle.vx_base.specs.declared.output.Output.{Output}
use Rattle.vx_base.specs.declared.output.Output.TheVariants.{First, Second}
use Rattle.vx_base.specs.Convolution.{ConvolutionValue, coefficient}
use Rattle.vx_base.specs.Sample.{clamp}
use Rattle.vx_base.specs.Rectangle.{Rectangle, shrink_of}
use Rattle.vx_base.specs.Image.{ImageValue, pixel_at, image_from}

-- ---- the input of a window

-- whether a pixel, which may lie outside the image, is in the rectangle
abbrev pub holds : Rectangle → ℤ → ℤ → Bool
holds r x y =
    (int_le (pos r.x0) x && int_lt x (pos r.x1)) && (int_le (pos r.y0) y && int_lt y (pos r.y1))

-- the number from `low` to `high - 1` that is nearest to v, or `low` if there is none
abbrev pub clamp_coordinate : ℕ → ℕ → ℤ → ℕ
clamp_coordinate low high v = unsigned_abs (int_max (pos low) (int_min v (pos high -ℤ pos 1)))

-- the sample that a window reads at a pixel outside the valid rectangle. Under Undefined the sample
-- is 0, and no valid output pixel depends on it. Under Constant the sample is the constant. Under
-- Replicate it is the nearest valid sample: each coordinate is clamped to the valid rectangle.
abbrev pub border_sample : ImageValue → Border → ℤ → ℤ → ℤ
border_sample image Undefined x y = pos 0
border_sample image (Constant value) x y = pos value
border_sample image Replicate x y =
    pixel_at image (clamp_coordinate image.valid.x0 image.valid.x1 x)
    (clamp_coordinate image.valid.y0 image.valid.y1 y)

-- the sample that a window reads at a pixel: the image's own in the valid rectangle, else the
-- border's
abbrev pub sample_or_border : ImageValue → Border → ℤ → ℤ → ℤ
sample_or_border image border x y =
    if holds image.valid x y then pixel_at image (unsigned_abs x) (unsigned_abs y) else
    border_sample image border x y

-- the 3x3 window around a pixel, in row-major order
abbrev pub nine_around : (ℤ → ℤ → ℤ) → ℤ → ℤ → List ℤ
nine_around f x y =
    f (x -ℤ pos 1) (y -ℤ pos 1) ∷ f x (y -ℤ pos 1) ∷ f (x +ℤ pos 1) (y -ℤ pos 1)
    ∷ f (x -ℤ pos 1) y ∷ f x y ∷ f (x +ℤ pos 1) y
    ∷ f (x -ℤ pos 1) (y +ℤ pos 1) ∷ f x (y +ℤ pos 1) ∷ f (x +ℤ pos 1) (y +ℤ pos 1) ∷ []

-- ---- the formulas of a window's samples

-- the sum of the samples
abbrev pub total : List ℤ → ℤ
total [] = pos 0
total (z ∷ zs) = z +ℤ total zs

-- the weighted sum of the samples
abbrev pub dot_product : List ℤ → List ℤ → ℤ
dot_product (w ∷ ws) (z ∷ zs) = w *ℤ z +ℤ dot_product ws zs
dot_product ws zs = pos 0

-- "Box Filter": the mean of the nine samples, rounded down
abbrev pub box_mean : List ℤ → ℤ
box_mean zs = int_div_euclid (total zs) (pos 9)

-- the weights of the Gaussian filter, in row-major order
abbrev pub gaussian_weights : List ℤ
gaussian_weights =
    pos 1 ∷ pos 2 ∷ pos 1
    ∷ pos 2 ∷ pos 4 ∷ pos 2
    ∷ pos 1 ∷ pos 2 ∷ pos 1 ∷ []

-- "Gaussian Filter": the weighted mean of the nine samples, rounded down
abbrev pub gaussian_mean : List ℤ → ℤ
gaussian_mean zs = int_div_euclid (dot_product gaussian_weights zs) (pos 16)

-- whether at most four of the samples are below v, and at most four are above it
abbrev pub is_middle : List ℤ → ℤ → Bool
is_middle zs v =
    nat_le (count_by (λ z. int_lt z v) zs) 4 && nat_le (count_by (λ z. int_lt v z) zs) 4

-- "Median Filter": the median of the nine samples
abbrev pub median : List ℤ → ℤ
median zs = unwrap_or (find (is_middle zs) zs) (pos 0)

-- "Erode Image": the least sample
abbrev pub least_of : List ℤ → ℤ
least_of [] = pos 0
least_of (z ∷ zs) = fold int_min z zs

-- "Dilate Image": the greatest sample
abbrev pub greatest_of : List ℤ → ℤ
greatest_of [] = pos 0
greatest_of (z ∷ zs) = fold int_max z zs

-- "Sobel 3x3": the horizontal gradient, positive where the samples increase from left to right
abbrev pub gradient_x : List ℤ → ℤ
gradient_x =
    dot_product
    (negsuc 0 ∷ pos 0 ∷ pos 1
    ∷ negsuc 1 ∷ pos 0 ∷ pos 2
    ∷ negsuc 0 ∷ pos 0 ∷ pos 1 ∷ [])

-- "Sobel 3x3": the vertical gradient, positive where the samples increase from top to bottom
abbrev pub gradient_y : List ℤ → ℤ
gradient_y =
    dot_product
    (negsuc 0 ∷ negsuc 1 ∷ negsuc 0
    ∷ pos 0 ∷ pos 0 ∷ pos 0
    ∷ pos 1 ∷ pos 2 ∷ pos 1 ∷ [])

-- the formula of a function's output over the nine samples of a 3x3 window
abbrev pub formula_of_nine : Function → Output → List ℤ → ℤ
formula_of_nine Box output = box_mean
formula_of_nine Gaussian output = gaussian_mean
formula_of_nine Median output = median
formula_of_nine Erode output = least_of
formula_of_nine Dilate output = greatest_of
formula_of_nine Sobel First = gradient_x
formula_of_nine Sobel Second = gradient_y
formula_of_nine other output = λ _. pos 0

-- ---- "Custom Convolution"

-- the dot product of the samples around column x, taken from right to left, with row l of the
-- matrix
abbrev pub row_product : ConvolutionValue → (ℤ → ℤ) → ℤ → ℕ → ℤ
row_product c f x l =
    total
    (map (λ k. f (x +ℤ pos (c.columns / 2) -ℤ pos k) *ℤ coefficient c l k)
    (range_with_len 0 c.columns))

-- the dot product of the matrix, turned by 180 degrees, with the samples around a pixel
abbrev pub matrix_product : ConvolutionValue → (ℤ → ℤ → ℤ) → ℤ → ℤ → ℤ
matrix_product c f x y =
    total
    (map (λ l. row_product c (λ u. f u (y +ℤ pos (c.rows / 2) -ℤ pos l)) x l)
    (range_with_len 0 c.rows))

-- the dot product with the turned matrix, divided by 2^exponent, rounded toward zero and clamped to
-- the format
abbrev pub convolution_result : ConvolutionValue → Format → (ℤ → ℤ → ℤ) → ℤ → ℤ → ℤ
convolution_result c format f x y =
    clamp format (int_div (matrix_product c f x y) (pos (2 ^ c.exponent)))

-- ---- images

-- the output's valid rectangle for windows of these radii: under Undefined the pixels whose whole
-- window is valid, otherwise the input's valid rectangle
abbrev pub window_valid : Border → ℕ → ℕ → Rectangle → Rectangle
window_valid Undefined rx ry valid = shrink_of valid rx ry
window_valid (Constant value) rx ry valid = valid
window_valid Replicate rx ry valid = valid

-- the image in which each valid sample is f of the 3x3 window around its pixel
abbrev pub from_nine : Format → (List ℤ → ℤ) → Border → ImageValue → ImageValue
from_nine format f border a =
    image_from a.width a.height format (window_valid border 1 1 a.valid)
    (λ x y. f (nine_around (sample_or_border a border) (pos x) (pos y)))

-- the image convolved with a matrix
abbrev pub from_matrix : Format → ConvolutionValue → Border → ImageValue → ImageValue
from_matrix format c border a =
    image_from a.width a.height format
    (window_valid border (c.columns / 2) (c.rows / 2) a.valid)
    (λ x y. convolution_result c format (sample_or_border a border) (pos x) (pos y))
