-- How long the bodies of requests are.
use Rattle.std.proofs.Common.{◌≡◌, ℕ, ◌*◌, ◌≤◌, [], ◌∷◌, Option, Some, None, length, IsTrue, arith, refl, length-append}
use Rattle.vx_wire.proofs.Common.{nat_tests, Format, U8, S16, U32, Border, Undefined, Constant, Replicate, Node, Reference, sample_count, PictureValue, IsPicture, sample_bytes, LutValue, IsLut, ThresholdKind, Binary, Range, ThresholdValue, ConvolutionValue, is_odd_side, IsConvolution, encoded_samples, limit_bytes, threshold_bytes, convolution_bytes, operand_bytes, border_bytes, node_bytes}
use Rattle.std.proofs.Math.Nat.{mul-le-mul}
use Rattle.vx_base.proofs.PictureLaws.{side}
use Rattle.vx_wire.proofs.SampleBytes.{length-encoded}
use Rattle.vx_wire.proofs.TableSizes.{bytes_most, ConvolutionParts, convolution_parts}
use Rattle.vx_base.specs.declared.desc.TheConstants.{GREATEST_SIDE, GREATEST_BYTES}

sample_bytes_most : (format : Format) → sample_bytes format ≤ 4
sample_bytes_most U8 = omega arith
sample_bytes_most S16 = omega arith
sample_bytes_most U32 = omega arith

pub spelled_most : (p : PictureValue)
    → IsPicture p
    → length (encoded_samples p.description.format p.samples) ≤ GREATEST_BYTES
spelled_most p is =
    let count : sample_count p.description ≤ GREATEST_SIDE * GREATEST_SIDE =
    mul-le-mul (side p.description.height is.description.height)
    (side p.description.width is.description.width) in
    let most :
    sample_count p.description * sample_bytes p.description.format ≤
    (GREATEST_SIDE * GREATEST_SIDE) * 4 =
    mul-le-mul count (sample_bytes_most p.description.format) in
    let size = is.size in
    rw (length-encoded p.description.format p.samples, size) (omega arith)

pub entries_most : (lut : LutValue)
    → IsLut lut
    → length (encoded_samples lut.format lut.entries) ≤ 131072
entries_most lut is =
    rw (length-encoded lut.format lut.entries) (bytes_most lut.format (length lut.entries) is.full)

limits_most : (kind : ThresholdKind) → length (limit_bytes kind) ≤ 4
limits_most (Binary t) = omega arith
limits_most (Range lower upper) = omega arith

pub threshold_most : (t : ThresholdValue) → length (threshold_bytes t) ≤ 8
threshold_most t =
    omega (
      arith,
      limits_most t.kind,
      length-append (limit_bytes t.kind) (t.true_value ∷ t.false_value ∷ []),
    )

odd_side_most : (n : ℕ) → IsTrue (is_odd_side n) → n ≤ 9
odd_side_most n is = grind (arith, nat_tests)

pub convolution_most : (c : ConvolutionValue) → IsConvolution c → length (convolution_bytes c) ≤ 165
convolution_most c is =
    let parts : ConvolutionParts c.columns c.rows c.exponent (length c.coefficients) =
    convolution_parts c.columns c.rows c.exponent (length c.coefficients) is.shape in
    let most : c.rows * c.columns ≤ 9 * 9 =
    mul-le-mul (odd_side_most c.rows parts.down) (odd_side_most c.columns parts.across) in
    omega (arith, length-encoded S16 c.coefficients, parts.many)

length-border_bytes : (border : Border) → length (border_bytes border) ≡ 2
length-border_bytes Undefined = refl
length-border_bytes (Constant value) = refl
length-border_bytes Replicate = refl

length-operand_bytes : (o : Option Reference) → length (operand_bytes o) ≡ 5
length-operand_bytes None = refl
length-operand_bytes (Some cell) = refl

pub length-node_bytes : (n : Node) → length (node_bytes n) ≡ 25
length-node_bytes n =
    simp (length-append, length-border_bytes, length-operand_bytes) refl
