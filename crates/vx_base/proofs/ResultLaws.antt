-- The results of samples are samples.
use Rattle.std.proofs.Common.{ℕ, ℤ, pos, negsuc, ◌+ℤ◌, ◌-ℤ◌, ◌*ℤ◌, ◌≤◌, ◌*◌, ◌^◌, arith, rules, ◌≡◌, true, false, IsTrue, Some, None, int_div}
use Rattle.vx_base.proofs.Common.{int_div_euclid, ints, Format, U8, S16, Function, AndBits, OrBits, XorBits, NotBits, Add, Subtract, Multiply, AbsoluteDifference, MinPixel, MaxPixel, Threshold, TableLookup, ConvertDepth, Box, Gaussian, Median, Erode, Dilate, Sobel, Convolve, Histogram, Integral, MinMaxLoc, Accumulate, AccumulateSquare, IsSample, wrap, parameters, accumulates, takes_formats, has_amount, formula_of_one, formula_of_two}
use Rattle.std.proofs.lemmas.Nat.{or_lt, xor_lt}
use Rattle.std.proofs.Math.Nat.{pow-le-pow_right}
use Rattle.vx_base.specs.declared.policy.Policy.{Policy}
use Rattle.vx_base.specs.declared.policy.Policy.TheVariants.{Wrap, Saturate}
use Rattle.vx_base.specs.Sample.{clamp, narrow, distance}
use Rattle.vx_base.specs.Pixelwise.{and_bits, or_bits, xor_bits, smaller, greater}

-- ---- bits

and_sample : (a b : ℤ) → IsSample U8 a → IsSample U8 b → IsSample U8 (and_bits a b)
and_sample a b p q = search rules

pub or_sample : (a b : ℤ) → IsSample U8 a → IsSample U8 b → IsSample U8 (or_bits a b)
or_sample (pos a) (pos b) p q = record {
  at_least = omega (arith, ints);
  at_most = omega (arith, ints, or_lt 8 a b (omega (arith, ints)) (omega (arith, ints)));
}
or_sample (negsuc a) b p q = absurd (omega (arith, ints, p.at_least))
or_sample a (negsuc b) p q = absurd (omega (arith, ints, q.at_least))

pub xor_sample : (a b : ℤ) → IsSample U8 a → IsSample U8 b → IsSample U8 (xor_bits a b)
xor_sample (pos a) (pos b) p q = record {
  at_least = omega (arith, ints);
  at_most = omega (arith, ints, xor_lt 8 a b (omega (arith, ints)) (omega (arith, ints)));
}
xor_sample (negsuc a) b p q = absurd (omega (arith, ints, p.at_least))
xor_sample a (negsuc b) p q = absurd (omega (arith, ints, q.at_least))

-- ---- numbers

wrap_sample : (format : Format) (v : ℤ) → IsSample format (wrap format v)
wrap_sample format v = search rules

pub clamp_sample : (format : Format) (v : ℤ) → IsSample format (clamp format v)
clamp_sample format v = search rules

narrow_sample : (format : Format) (policy : Policy) (v : ℤ)
    → IsSample format (narrow format policy v)
narrow_sample format Wrap v = wrap_sample format v
narrow_sample format Saturate v = clamp_sample format v

smaller_sample : (format : Format) (a b : ℤ)
    → IsSample format a
    → IsSample format b
    → IsSample format (smaller a b)
smaller_sample format a b p q = search rules

greater_sample : (format : Format) (a b : ℤ)
    → IsSample format a
    → IsSample format b
    → IsSample format (greater a b)
greater_sample format a b p q = search rules

pub zero_sample : (format : Format) → IsSample format (pos 0)
zero_sample format = search rules

-- 255 times 2^7 is no more than 32767
widened_sample : (n : ℕ) (a : ℤ) → n ≤ 7 → IsSample U8 a → IsSample S16 (a *ℤ pos (2 ^ n))
widened_sample n (negsuc a) h p = absurd (omega (arith, ints, p.at_least))
widened_sample n (pos a) h p =
    widened a (2 ^ n) (omega (arith, ints, p.at_most)) (pow-le-pow_right (omega arith) h)
  where
    widened : (a m : ℕ) → a ≤ 255 → m ≤ 128 → IsSample S16 (pos a *ℤ pos m)
    widened a m p q = let below : a * m ≤ 32640 = grind arith in record {
      at_least = omega (arith, ints);
      at_most = omega (arith, ints);
    }

-- ---- the functions

pub not_so : {A : Type 0} → IsTrue false → A
not_so h = absurd (grind arith)

pub of_one : (function : Function) (first output : Format) (policy : Policy) (n : ℕ) (a : ℤ)
    → IsTrue (takes_formats function first None (Some output))
    → IsTrue (has_amount (parameters function) policy n)
    → IsSample first a
    → IsSample output (formula_of_one function output policy n a)
of_one NotBits U8 U8 policy n a t h s = search rules
of_one ConvertDepth U8 S16 policy n a t h s = widened_sample n a (grind arith) s
of_one ConvertDepth S16 U8 policy n a t h s =
    narrow_sample U8 policy (int_div_euclid a (pos (2 ^ n)))
of_one Threshold U8 output policy n a t h s = not_so t
of_one Box first output policy n a t h s = zero_sample output
of_one Gaussian first output policy n a t h s = zero_sample output
of_one Median first output policy n a t h s = zero_sample output
of_one Erode first output policy n a t h s = zero_sample output
of_one Dilate first output policy n a t h s = zero_sample output
of_one Sobel first output policy n a t h s = zero_sample output
of_one Convolve U8 output policy n a t h s = not_so t
of_one Integral first output policy n a t h s = zero_sample output
of_one Histogram U8 output policy n a t h s = not_so t
of_one MinMaxLoc U8 output policy n a t h s = not_so t
of_one MinMaxLoc S16 output policy n a t h s = not_so t
of_one Accumulate first output policy n a t h s = zero_sample output
of_one AccumulateSquare first output policy n a t h s = zero_sample output
of_one function first output policy n a t h s = not_so t

pub of_two :
    (function : Function) (first second output : Format) (policy : Policy) (n : ℕ) (a b : ℤ)
    → IsTrue (takes_formats function first (Some second) (Some output))
    → IsSample first a
    → IsSample second b
    → IsSample output (formula_of_two function output policy n a b)
of_two AndBits U8 U8 U8 policy n a b t p q = and_sample a b p q
of_two OrBits U8 U8 U8 policy n a b t p q = or_sample a b p q
of_two XorBits U8 U8 U8 policy n a b t p q = xor_sample a b p q
of_two Add first second output policy n a b t p q = narrow_sample output policy (a +ℤ b)
of_two Subtract first second output policy n a b t p q = narrow_sample output policy (a -ℤ b)
of_two Multiply first second output policy n a b t p q =
    narrow_sample output policy (int_div (a *ℤ b) (pos (2 ^ n)))
of_two AbsoluteDifference first second output policy n a b t p q =
    clamp_sample output (pos (distance a b))
of_two MinPixel U8 U8 U8 policy n a b t p q = smaller_sample U8 a b p q
of_two MinPixel S16 S16 S16 policy n a b t p q = smaller_sample S16 a b p q
of_two MaxPixel U8 U8 U8 policy n a b t p q = greater_sample U8 a b p q
of_two MaxPixel S16 S16 S16 policy n a b t p q = greater_sample S16 a b p q
of_two NotBits first second output policy n a b t p q = zero_sample output
of_two Threshold first second output policy n a b t p q = zero_sample output
of_two TableLookup first second output policy n a b t p q = zero_sample output
of_two ConvertDepth first second output policy n a b t p q = zero_sample output
of_two Box first second output policy n a b t p q = zero_sample output
of_two Gaussian first second output policy n a b t p q = zero_sample output
of_two Median first second output policy n a b t p q = zero_sample output
of_two Erode first second output policy n a b t p q = zero_sample output
of_two Dilate first second output policy n a b t p q = zero_sample output
of_two Sobel first second output policy n a b t p q = zero_sample output
of_two Convolve first second output policy n a b t p q = zero_sample output
of_two Histogram first second output policy n a b t p q = zero_sample output
of_two Integral first second output policy n a b t p q = zero_sample output
of_two MinMaxLoc first second output policy n a b t p q = zero_sample output
of_two Accumulate first second output policy n a b t p q = clamp_sample output (b +ℤ a)
of_two AccumulateSquare first second output policy n a b t p q =
    clamp_sample output (b +ℤ int_div_euclid (a *ℤ a) (pos (2 ^ n)))
of_two function first second output policy n a b t p q = not_so t

-- whatever the output was before
pub accumulated_is : (function : Function) (format : Format) (policy : Policy) (n : ℕ) (a c : ℤ)
    → accumulates function ≡ true
    → IsSample format (formula_of_two function format policy n a c)
accumulated_is Accumulate format policy n a c h = clamp_sample format (c +ℤ a)
accumulated_is AccumulateSquare format policy n a c h =
    clamp_sample format (c +ℤ int_div_euclid (a *ℤ a) (pos (2 ^ n)))
accumulated_is function format policy n a c h = absurd (cc h)
