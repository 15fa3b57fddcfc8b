-- Pictures and images.
use Rattle.std.proofs.Common.{ℕ, IsTrue, ◌≤◌, pos, ◌+◌, ◌*◌, ◌<◌, length, get_or, arith, subst}
use Rattle.vx_base.proofs.Common.{nat_tests, All-from_get_or, GREATEST_SIDE, IsSample, ImageValue, IsImage}
use Rattle.std.proofs.lemmas.List.Elements.{All-get_or}
use Rattle.vx_base.specs.Description.{is_side}
use Rattle.vx_base.specs.Picture.{PictureValue, IsPicture, picture_of, picture_image}
use Rattle.vx_base.proofs.ImageLaws.{above, index_of_place, inside_whole, whole_canonical}

pub side : (n : ℕ) → IsTrue (is_side n) → n ≤ GREATEST_SIDE
side n h = grind (arith, nat_tests)

pub pictured_image : (p : PictureValue) → IsPicture p → IsImage (picture_image p)
pictured_image p h =
    record {
      sides = h.description;
      size = h.size;
      canonical =
          whole_canonical p.description.width p.description.height h.description.width
          h.description.height;
      room = record { columns = omega arith; rows = omega arith };
      sampled = λ x y a b.
          let below : y * p.description.width + x < length p.samples =
          omega (arith, h.size, above p.description.width p.description.height x y a b) in
          All-get_or (IsSample p.description.format) p.samples (y * p.description.width + x)
          (pos 0) below h.sampled;
      outside =
          λ x y a b e. let i = inside_whole p.description.width p.description.height x y a b in cc;
    }

pub picture_of_image : (a : ImageValue) → IsImage a → IsPicture (picture_of a)
picture_of_image a h =
    record {
      description = h.sides;
      size = h.size;
      sampled = All-from_get_or (IsSample a.format) a.samples (pos 0) each;
    }
  where
    each : (k : ℕ) → k < length a.samples → IsSample a.format (get_or a.samples k (pos 0))
    each k below =
        let p = index_of_place a.width a.height k (omega (arith, h.size)) in
        let P : ℕ → Type 0 = λ n. IsSample a.format (get_or a.samples n (pos 0)) in
        subst P p.4 (h.sampled p.0 p.1 p.2 p.3)
