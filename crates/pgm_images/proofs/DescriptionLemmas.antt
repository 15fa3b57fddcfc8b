-- The description that a text's header gives for the picture that the text encodes.
use Rattle.std.proofs.Common.{arith, ◌≡◌, ℕ, true, List, Ok, ap}
use Rattle.pgm_images.proofs.Common.{Description, PictureValue, take_header, header_description, read_result, description_in, is_headed}
use Rattle.pgm_images.specs.Reading.{description_after}
use Rattle.pgm_images.proofs.StandsLemmas.{headed, pictured, sampled}

-- ---- a picture that is read has the description of the header

pub read_description : (text : List ℕ) (d : Description) (p : PictureValue)
    → description_in text ≡ Ok d
    → read_result text ≡ Ok p
    → p.description ≡ d
read_description text d p told e =
    let (value, rest, is, e1) = headed (take_header text) p e in
    let (found, described, e2) =
    pictured value (header_description value.width value.height value.maxval) rest p e1 in
    let (samples, from, same) = sampled found _ p e2 in
    cc (ap (λ (p : PictureValue). p.description) same, ap description_after is)

-- a text with a description has a header that is accepted
pub told_headed : (text : List ℕ) (d : Description)
    → description_in text ≡ Ok d
    → is_headed text ≡ true
told_headed text d told = grind arith
