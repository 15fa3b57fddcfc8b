-- The bodies of requests are bytes.
use Rattle.std.proofs.Common.{ℕ, ℤ, zero, suc, pos, negsuc, ◌<◌, ◌^◌, List, [], ◌∷◌, ◌++◌, length, Option, Some, None, Bool, arith, IsTrue, rules, All, IfSome, leb-true, unwrap_or, unsigned_abs}
use Rattle.vx_wire.proofs.Common.{w16, w32, to_be_bytes, cast_unsigned, ints, nat_tests, All-nil, All-cons, All-head, All-tail, Format, U8, S16, U32, Border, Undefined, Constant, Replicate, Policy, Function, Node, ThresholdKind, Binary, Range, Reference, IsReference, ConvolutionValue, is_odd_side, IsConvolution, Description, function_number, LutValue, IsLut, IsBorder, IsNode, PartialDescription, PictureValue, IsPicture, Rectangle, IsSample, is_slot_count, BinsValue, ThresholdValue, IsThreshold, Request, OpenContext, ReleaseContext, CreateImage, QueryImage, WriteImage, WriteImagePgm, ReadImage, ReadImagePgm, SetValid, Release, CreateLut, CreateThreshold, CreateConvolution, CreateDistribution, ReadDistribution, CreateMinMax, ReadMinMax, CreateGraph, CreateVirtualImage, AddNode, RemoveNode, VerifyGraph, ProcessGraph, Immediate, CreateDelay, AgeDelay, RegisterAutoAging, IsRequest, format_number, open_format_number, description_bytes, encoded_sample, encoded_samples, picture_bytes, reference_bytes, operand_bytes, rectangle_bytes, lut_bytes, range_number, limit_bytes, threshold_bytes, convolution_bytes, bins_bytes, partial_desc_bytes, open_side_number, border_bytes, policy_number, node_bytes, body_of}
use Rattle.std.specs.Int.{Width, byte_len, byte_at, bytes_high_first}
use Rattle.std.proofs.lemmas.List.Elements.{All-append}
use Rattle.vx_wire.proofs.TableSizes.{convolution_parts}

-- as a record, so that which bytes are meant is found from their proof
record AreBytes (bytes : List ℕ) : Type 0 where
  each : All (λ b. b < 2 ^ 8) bytes

none : AreBytes []
none = record { each = All-nil (λ b. b < 2 ^ 8) }

more : (b : ℕ) (bytes : List ℕ) → b < 2 ^ 8 → AreBytes bytes → AreBytes (b ∷ bytes)
more b bytes is are = record { each = All-cons (λ b. b < 2 ^ 8) b bytes is are.each }

joined : (xs ys : List ℕ) → AreBytes xs → AreBytes ys → AreBytes (xs ++ ys)
joined xs ys left right = record { each = All-append (λ b. b < 2 ^ 8) xs ys left.each right.each }

-- ---- numbers

byte_of : (i n : ℕ) → byte_at i n < 2 ^ 8
byte_of zero n = omega arith
byte_of (suc i) n = omega arith

high_first : (k n : ℕ) → AreBytes (bytes_high_first k n)
high_first zero n = none
high_first (suc k) n = more (byte_at k n) (bytes_high_first k n) (byte_of k n) (high_first k n)

number : (w : Width) (n : ℕ) → AreBytes (to_be_bytes w n)
number w n = high_first (byte_len w) n

-- ---- samples

sample : (format : Format) (z : ℤ) → IsSample format z → AreBytes (encoded_sample format z)
sample U8 (pos n) is = more n [] (omega (arith, ints, is.at_most)) none
sample U8 (negsuc n) is = absurd (omega (arith, ints, is.at_least))
sample S16 z is = number w16 (cast_unsigned w16 z)
sample U32 z is = number w32 (unsigned_abs z)

samples : (format : Format) (zs : List ℤ)
    → All (IsSample format) zs
    → AreBytes (encoded_samples format zs)
samples format [] are = none
samples format (z ∷ zs) are =
    joined (encoded_sample format z) (encoded_samples format zs)
    (sample format z (All-head (IsSample format) z zs are))
    (samples format zs (All-tail (IsSample format) z zs are))

-- ---- fields

format_byte : (format : Format) → format_number format < 2 ^ 8
format_byte format = search rules

open_format_byte : (format : Option Format) → open_format_number format < 2 ^ 8
open_format_byte format = search rules

description : (d : Description) → AreBytes (description_bytes d)
description d =
    more _ _ (format_byte d.format) (joined _ _ (number w16 d.width) (number w16 d.height))

picture : (p : PictureValue) → IsPicture p → AreBytes (picture_bytes p)
picture p is =
    joined _ _ (description p.description) (samples p.description.format p.samples is.sampled)

slot_byte : (slot : Option ℕ) → IfSome slot (λ k. k < 255) → unwrap_or slot 255 < 2 ^ 8
slot_byte None is = omega arith
slot_byte (Some k) is = omega (arith, is)

reference : (cell : Reference) → IsReference cell → AreBytes (reference_bytes cell)
reference cell is = joined _ _ (number w32 cell.name) (more _ [] (slot_byte cell.slot is.slot) none)

operand : (cell : Option Reference) → IfSome cell IsReference → AreBytes (operand_bytes cell)
operand None is =
    reference (record { name = 0; slot = None }) (record { name = omega arith; slot = tt })
operand (Some cell) is = reference cell is

rectangle : (r : Rectangle) → AreBytes (rectangle_bytes r)
rectangle r =
    joined _ _ (number w16 r.x0)
    (joined _ _ (number w16 r.y0) (joined _ _ (number w16 r.x1) (number w16 r.y1)))

partial_desc : (o : PartialDescription) → AreBytes (partial_desc_bytes o)
partial_desc o =
    more _ _ (open_format_byte o.format)
    (joined _ _ (number w16 (open_side_number o.width)) (number w16 (open_side_number o.height)))

bins : (b : BinsValue) → AreBytes (bins_bytes b)
bins b = joined _ _ (number w16 b.bins) (joined _ _ (number w16 b.offset) (number w16 b.range))

limits : (kind : ThresholdKind) → AreBytes (limit_bytes kind)
limits (Binary t) = number w16 (cast_unsigned w16 t)
limits (Range lower upper) =
    joined _ _ (number w16 (cast_unsigned w16 lower)) (number w16 (cast_unsigned w16 upper))

range_byte : (b : Bool) → range_number b < 2 ^ 8
range_byte b = search rules

threshold : (t : ThresholdValue) → IsThreshold t → AreBytes (threshold_bytes t)
threshold t is =
    more _ _ (range_byte _)
    (more _ _ (format_byte t.format)
    (joined _ _ (limits t.kind)
    (more t.true_value _ is.true_value (more t.false_value [] is.false_value none))))

odd_side_byte : (n : ℕ) → IsTrue (is_odd_side n) → n < 2 ^ 8
odd_side_byte n is = grind (arith, nat_tests)

convolution : (c : ConvolutionValue) → IsConvolution c → AreBytes (convolution_bytes c)
convolution c is =
    let parts = convolution_parts c.columns c.rows c.exponent (length c.coefficients) is.shape in
    more c.columns _ (odd_side_byte c.columns parts.across)
    (more c.rows _ (odd_side_byte c.rows parts.down)
    (more c.exponent _ (omega (arith, leb-true c.exponent 31 parts.power))
    (samples S16 c.coefficients is.each)))

lut : (l : LutValue) → IsLut l → AreBytes (lut_bytes l)
lut l is = more _ _ (format_byte l.format) (samples l.format l.entries is.sampled)

-- ---- nodes

function_byte : (function : Function) → function_number function < 2 ^ 8
function_byte function = search rules

border : (b : Border) → IsBorder b → AreBytes (border_bytes b)
border Undefined is = more 0 _ (omega arith) (more 0 [] (omega arith) none)
border (Constant value) is = more 1 _ (omega arith) (more value [] (omega (arith, is)) none)
border Replicate is = more 2 _ (omega arith) (more 0 [] (omega arith) none)

policy_byte : (policy : Policy) → policy_number policy < 2 ^ 8
policy_byte policy = search rules

node : (n : Node) → IsNode n → AreBytes (node_bytes n)
node n is =
    more _ _ (function_byte n.function)
    (joined _ _ (border n.border is.border)
    (more _ _ (policy_byte n.policy)
    (more n.amount _ is.amount
    (joined _ _ (reference n.in1 is.in1)
    (joined _ _ (operand n.in2 is.in2)
    (joined _ _ (operand n.out1 is.out1) (operand n.out2 is.out2)))))))

-- ---- bodies

slots_byte : (n : ℕ) → IsTrue (is_slot_count n) → n < 2 ^ 8
slots_byte n is = grind (arith, nat_tests)

body : (request : Request) → IsRequest request → AreBytes (body_of request)
body OpenContext is = none
body ReleaseContext is = none
body (CreateImage d) is = description d
body (QueryImage image) is = reference image is
body (WriteImage image p) is = joined _ _ (reference image is.0) (picture p is.1)
body (WriteImagePgm image text) is = joined _ _ (reference image is.0) (record { each = is.1 })
body (ReadImage image) is = reference image is
body (ReadImagePgm image) is = reference image is
body (SetValid image valid) is = joined _ _ (reference image is.0) (rectangle valid)
body (Release name) is = number w32 name
body (CreateLut l) is = lut l is
body (CreateThreshold t) is = threshold t is
body (CreateConvolution c) is = convolution c is
body (CreateDistribution b) is = bins b
body (ReadDistribution name) is = number w32 name
body CreateMinMax is = none
body (ReadMinMax name) is = number w32 name
body CreateGraph is = none
body (CreateVirtualImage graph declared) is = joined _ _ (number w32 graph) (partial_desc declared)
body (AddNode graph n) is = joined _ _ (number w32 graph) (node n is.1)
body (RemoveNode graph n) is = joined _ _ (number w32 graph) (number w32 n)
body (VerifyGraph graph) is = number w32 graph
body (ProcessGraph graph) is = number w32 graph
body (Immediate n) is = node n is
body (CreateDelay exemplar slots) is =
    joined _ _ (reference exemplar is.0) (more slots [] (slots_byte slots is.1) none)
body (AgeDelay name) is = number w32 name
body (RegisterAutoAging graph delay) is = joined _ _ (number w32 graph) (number w32 delay)

-- what a request is spelled by
pub body_is : (request : Request) → IsRequest request → All (λ b. b < 2 ^ 8) (body_of request)
body_is request is = (body request is).each
