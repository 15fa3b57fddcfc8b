-- Pixel formulas over whole images.
use Rattle.std.proofs.Common.{◌≡◌, ℕ, ℤ, ◌≤◌, true, arith, min, max}
use Rattle.vx_base.proofs.Common.{Format, IsSample, has_pixel, meet_of, IsCanonical, IsWithin, ImageValue, IsImage, pixel_at, from_one}
use Rattle.vx_base.specs.Pixelwise.{from_two}
use Rattle.vx_base.proofs.RectangleLaws.{bounded_canonical, bounded_within, inside_meet, both_inside}
use Rattle.vx_base.proofs.ImageLaws.{made_image, at-made, column_inside, row_inside, valid_sampled}

pub from_one_is : (format : Format) (f : ℤ → ℤ) (a : ImageValue)
    → IsImage a
    → ((z : ℤ) → IsSample a.format z → IsSample format (f z))
    → IsImage (from_one format f a)
from_one_is format f a h gives =
    made_image a.width a.height format a.valid (λ x y. f (pixel_at a x y)) h.sides.width
    h.sides.height h.canonical h.room
    (λ x y e. gives (pixel_at a x y) (valid_sampled a x y h e))

pub at-from_one : (format : Format) (f : ℤ → ℤ) (a : ImageValue) (x y : ℕ)
    → IsImage a
    → has_pixel a.valid x y ≡ true
    → pixel_at (from_one format f a) x y ≡ f (pixel_at a x y)
at-from_one format f a x y h e =
    at-made a.width a.height format a.valid (λ x y. f (pixel_at a x y)) x y
    (column_inside a.valid a.width a.height x y h.room e)
    (row_inside a.valid a.width a.height x y h.room e) e

pub from_two_is : (format : Format) (f : ℤ → ℤ → ℤ) (a b : ImageValue)
    → IsImage a
    → IsImage b
    → ((y z : ℤ) → IsSample a.format y → IsSample b.format z → IsSample format (f y z))
    → IsImage (from_two format f a b)
from_two_is format f a b h k gives =
    made_image a.width a.height format (meet_of a.valid b.valid)
    (λ x y. f (pixel_at a x y) (pixel_at b x y)) h.sides.width h.sides.height canonical room
    (λ x y e. let p = both_inside a.valid b.valid x y e in gives (pixel_at a x y)
    (pixel_at b x y) (valid_sampled a x y h p.0) (valid_sampled b x y k p.1))
  where
    canonical : IsCanonical (meet_of a.valid b.valid)
    canonical =
        bounded_canonical (max a.valid.x0 b.valid.x0) (max a.valid.y0 b.valid.y0)
        (min a.valid.x1 b.valid.x1) (min a.valid.y1 b.valid.y1)

    room : IsWithin (meet_of a.valid b.valid) a.width a.height
    room =
        let p : a.valid.x1 ≤ a.width = h.room.columns in
        let q : a.valid.y1 ≤ a.height = h.room.rows in
        bounded_within (max a.valid.x0 b.valid.x0) (max a.valid.y0 b.valid.y0)
        (min a.valid.x1 b.valid.x1) (min a.valid.y1 b.valid.y1) a.width a.height
        (omega (arith, p)) (omega (arith, q))

pub at-from_two : (format : Format) (f : ℤ → ℤ → ℤ) (a b : ImageValue) (x y : ℕ)
    → IsImage a
    → IsImage b
    → has_pixel a.valid x y ≡ true
    → has_pixel b.valid x y ≡ true
    → pixel_at (from_two format f a b) x y ≡ f (pixel_at a x y) (pixel_at b x y)
at-from_two format f a b x y h k p q =
    at-made a.width a.height format (meet_of a.valid b.valid)
    (λ x y. f (pixel_at a x y) (pixel_at b x y)) x y
    (column_inside a.valid a.width a.height x y h.room p)
    (row_inside a.valid a.width a.height x y h.room p) (inside_meet a.valid b.valid x y p q)
