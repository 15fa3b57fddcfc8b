-- Pixel-wise functions: each output sample depends on the input samples `a` and `b` at the same
-- pixel. OpenVX 1.3, "Vision Functions"; the words in quotation marks are the names of its
-- sections.
use Rattle.std.specs.Prelude.{ℕ, ◌^◌, ℤ, pos, ◌+ℤ◌, ◌-ℤ◌, ◌*ℤ◌, bit_and, bit_or, bit_xor, unsigned_abs, int_div, if◌then◌else◌}
use Rattle.std.specs.Int.{int_div_euclid, int_min, int_max}
use Rattle.vx_base.specs.declared.format.Format.{Format}
use Rattle.vx_base.specs.declared.format.Format.TheVariants.{U8, S16, U32}
use Rattle.vx_base.specs.declared.policy.Policy.{Policy}
use Rattle.vx_base.specs.declared.function.Function.{Function}
use Rattle.vx_base.specs.declared.function.Function.TheVariants.{AndBits, OrBits, XorBits, NotBits, Add, Subtract, Multiply, AbsoluteDifference, MinPixel, MaxPixel, ConvertDepth, Accumulate, AccumulateSquare}
use Rattle.vx_base.specs.Sample.{clamp, narrow, distance}
use Rattle.vx_base.specs.Rectangle.{meet_of}
use Rattle.vx_base.specs.Image.{ImageValue, pixel_at, image_from}
use Rattle.vx_base.specs.Lut.{LutValue, entry_for}
use Rattle.vx_base.specs.Threshold.{ThresholdValue, passes}

-- ---- the formulas

-- "Bitwise AND": the bits that are set in both samples
abbrev pub and_bits : ℤ → ℤ → ℤ
and_bits a b = pos (bit_and (unsigned_abs a) (unsigned_abs b))

-- "Bitwise INCLUSIVE OR": the bits that are set in one or both samples
abbrev pub or_bits : ℤ → ℤ → ℤ
or_bits a b = pos (bit_or (unsigned_abs a) (unsigned_abs b))

-- "Bitwise EXCLUSIVE OR": the bits that are set in exactly one of the samples
abbrev pub xor_bits : ℤ → ℤ → ℤ
xor_bits a b = pos (bit_xor (unsigned_abs a) (unsigned_abs b))

-- "Bitwise NOT": each of the eight bits inverted
abbrev pub not_bits : ℤ → ℤ
not_bits a = pos 255 -ℤ a

-- "Arithmetic Addition": the sum, narrowed to the output's format
abbrev pub sum : Format → Policy → ℤ → ℤ → ℤ
sum format policy a b = narrow format policy (a +ℤ b)

-- "Arithmetic Subtraction": the difference, narrowed to the output's format
abbrev pub difference : Format → Policy → ℤ → ℤ → ℤ
difference format policy a b = narrow format policy (a -ℤ b)

-- "Pixel-wise Multiplication": the product over 2^n, rounded toward zero and narrowed to the
-- output's format
abbrev pub product : Format → Policy → ℕ → ℤ → ℤ → ℤ
product format policy n a b = narrow format policy (int_div (a *ℤ b) (pos (2 ^ n)))

-- "Absolute Difference": the distance between two samples, clamped to the output's format
abbrev pub absolute_difference : Format → ℤ → ℤ → ℤ
absolute_difference format a b = clamp format (pos (distance a b))

-- "Min": the smaller of two samples
abbrev pub smaller : ℤ → ℤ → ℤ
smaller a b = int_min a b

-- "Max": the greater of two samples
abbrev pub greater : ℤ → ℤ → ℤ
greater a b = int_max a b

-- "Thresholding": the true value where the sample passes, else the false value
abbrev pub threshold_result : ThresholdValue → ℤ → ℤ
threshold_result threshold a =
    if passes threshold.kind a then pos threshold.true_value else pos threshold.false_value

-- "TableLookup": the table's entry for the sample
abbrev pub lookup_result : LutValue → ℤ → ℤ
lookup_result lut a = entry_for lut a

-- "Convert Bit Depth", with this project's meaning of the shift n: to S16, the sample times 2^n; to
-- U8, the sample over 2^n, rounded down and narrowed
abbrev pub depth_conversion : Format → Policy → ℕ → ℤ → ℤ
depth_conversion U8 policy n a = narrow U8 policy (int_div_euclid a (pos (2 ^ n)))
depth_conversion S16 policy n a = a *ℤ pos (2 ^ n)
depth_conversion U32 policy n a = a

-- "Accumulate": the sum of the sample `a` and the output's earlier sample `c`, clamped to the
-- output's format
abbrev pub accumulated_sum : Format → ℤ → ℤ → ℤ
accumulated_sum format a c = clamp format (c +ℤ a)

-- "Accumulate Squared": the square of `a` is divided by 2^n, rounded down, and added to the
-- output's earlier sample `c`. The sum is clamped to the output's format.
abbrev pub accumulated_square : Format → ℕ → ℤ → ℤ → ℤ
accumulated_square format n a c = clamp format (c +ℤ int_div_euclid (a *ℤ a) (pos (2 ^ n)))

-- ---- images

-- the image whose samples are f of the input's samples, valid where the input is
abbrev pub from_one : Format → (ℤ → ℤ) → ImageValue → ImageValue
from_one format f a = image_from a.width a.height format a.valid (λ x y. f (pixel_at a x y))

-- the image whose samples are f of the samples of two images, valid where both are
abbrev pub from_two : Format → (ℤ → ℤ → ℤ) → ImageValue → ImageValue → ImageValue
from_two format f a b =
    image_from a.width a.height format (meet_of a.valid b.valid)
    (λ x y. f (pixel_at a x y) (pixel_at b x y))

-- ---- the formula of each pixel-wise function of one image, and of each function of two images; an
-- accumulator's earlier content counts as the second image

-- the formula of a pixel-wise function of one image; n is the node's amount
abbrev pub formula_of_one : Function → Format → Policy → ℕ → ℤ → ℤ
formula_of_one NotBits format policy n a = not_bits a
formula_of_one ConvertDepth format policy n a = depth_conversion format policy n a
formula_of_one other format policy n a = pos 0

-- the formula of a function of two images, or of an image and an accumulator
abbrev pub formula_of_two : Function → Format → Policy → ℕ → ℤ → ℤ → ℤ
formula_of_two AndBits format policy n a b = and_bits a b
formula_of_two OrBits format policy n a b = or_bits a b
formula_of_two XorBits format policy n a b = xor_bits a b
formula_of_two Add format policy n a b = sum format policy a b
formula_of_two Subtract format policy n a b = difference format policy a b
formula_of_two Multiply format policy n a b = product format policy n a b
formula_of_two AbsoluteDifference format policy n a b = absolute_difference format a b
formula_of_two MinPixel format policy n a b = smaller a b
formula_of_two MaxPixel format policy n a b = greater a b
formula_of_two Accumulate format policy n a c = accumulated_sum format a c
formula_of_two AccumulateSquare format policy n a c = accumulated_square format n a c
formula_of_two other format policy n a b = pos 0
