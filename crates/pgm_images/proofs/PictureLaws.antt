-- What a text encodes is a valid picture.
use Rattle.std.proofs.Common.{◌≡◌, ℕ, ℤ, pos, ◌≤◌, Bool, true, false, if◌then◌else◌, nat_lt, List, [], ◌∷◌, length, map, Ok, refl, sym, subst, ◌∙◌, arith, All, nat_le, leb-true, ltb-true}
use Rattle.pgm_images.proofs.Common.{ints, and_parts, length-map, All-nil, All-cons, U8, IsSample, sample_count, PictureValue, IsPicture, format_up_to, all_up_to, read_result, Encodes}
use Rattle.vx_base.specs.declared.format.Format.{Format}
use Rattle.vx_base.specs.declared.format.Format.TheVariants.{S16}
use Rattle.pgm_images.proofs.StandsLemmas.{stands_read}

sample_up_to : (maxval n : ℕ) (narrow : Bool)
    → nat_lt maxval 256 ≡ narrow
    → n ≤ maxval
    → maxval ≤ 32767
    → IsSample (if narrow then U8 else S16) (pos n)
sample_up_to maxval n true e below most = let less = ltb-true maxval 256 e in record {
  at_least = omega (arith, ints);
  at_most = omega (arith, ints, less, below);
}
sample_up_to maxval n false e below most = record {
  at_least = omega (arith, ints);
  at_most = omega (arith, ints, below, most);
}

samples_up_to : (maxval : ℕ) (numbers : List ℕ)
    → maxval ≤ 32767
    → all_up_to maxval numbers ≡ true
    → All (IsSample (format_up_to maxval)) (map pos numbers)
samples_up_to maxval [] most below = All-nil (IsSample (format_up_to maxval))
samples_up_to maxval (n ∷ numbers) most below =
    let parts = and_parts (nat_le n maxval) (all_up_to maxval numbers) below in
    All-cons (IsSample (format_up_to maxval)) (pos n) (map pos numbers)
    (sample_up_to maxval n (nat_lt maxval 256) refl (leb-true n maxval parts.0) most)
    (samples_up_to maxval numbers most parts.1)

stands_picture : (text : List ℕ) (p : PictureValue) → Encodes text p → IsPicture p
stands_picture text p s =
    let most =
    leb-true s.maxval 32767 (and_parts (nat_le 1 s.maxval) (nat_le s.maxval 32767) s.allowed).1 in
    let each : All (IsSample p.description.format) (map pos s.numbers) =
    subst (λ (f : Format). All (IsSample f) (map pos s.numbers)) (sym s.format)
    (samples_up_to s.maxval s.numbers most s.below) in
    record {
      description = s.sides;
      size =
          subst (λ (l : List ℤ). length l ≡ sample_count p.description) (sym s.samples)
          (length-map s.numbers pos ∙ s.size);
      sampled = subst (λ (l : List ℤ). All (IsSample p.description.format) l) (sym s.samples) each;
    }

-- what is read from a text is a valid picture
pub read_picture : (text : List ℕ) (p : PictureValue) → read_result text ≡ Ok p → IsPicture p
read_picture text p e = stands_picture text p (stands_read text p e)
