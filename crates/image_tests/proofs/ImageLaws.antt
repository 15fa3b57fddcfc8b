-- Images of bytes.
use Rattle.std.proofs.Common.{◌≡◌, ℕ, ℤ, pos, ◌+◌, ◌*◌, ◌<◌, List, map, get_or, arith, true, ap, sym, ◌∙◌, subst}
use Rattle.std.proofs.lemmas.Int.{ints}
use Rattle.std.proofs.Math.ListN.{get_or-map}
use Rattle.vx_base.specs.declared.format.Format.TheVariants.{U8}
use Rattle.vx_base.specs.Sample.{IsSample}
use Rattle.vx_base.specs.Rectangle.{Rectangle, has_pixel, IsCanonical, IsWithin}
use Rattle.vx_base.specs.Description.{Description, IsDescription}
use Rattle.vx_base.specs.Image.{ImageValue, IsImage, zero_outside, pixel_at, image_from, image_over}
use Rattle.vx_base.proofs.ImageLaws.{at-made, made_image, column_inside, row_inside}
use Rattle.vx_base.proofs.TableLaws.{length-table}
use Rattle.image_core.specs.declared.band.Band.{Band}
use Rattle.image_core.specs.declared.image_mut.ImageMut.{ImageMut}
use Rattle.image_core.specs.Bands.{all_rows, rows_in}
use Rattle.image_core.specs.Rows.{sample_from}
use Rattle.image_core.specs.Target.{target_image, Writes}
use Rattle.image_core.proofs.BandLaws.{all_rows_are}

-- what equals an image is one
image_by : (a b : ImageValue) → a ≡ b → IsImage b → IsImage a
image_by a b same h = rw same h

-- bytes that are what an image is made of are an image
pub bytes_image : (d : Description) (valid : Rectangle) (bytes : List ℕ) (f : ℕ → ℕ → ℤ)
    → image_over d valid (map pos bytes) ≡ image_from d.width d.height U8 valid f
    → IsDescription d
    → IsCanonical valid
    → IsWithin valid d.width d.height
    → ((k : ℕ) → get_or bytes k 0 < 256)
    → IsImage (image_over d valid (map pos bytes))
bytes_image d valid bytes f same sides canonical room fits =
    image_by _ _ same
    (made_image d.width d.height U8 valid f sides.width sides.height canonical room sampled)
  where
    sampled : (x y : ℕ) → has_pixel valid x y ≡ true → IsSample U8 (f x y)
    sampled x y e =
        let here :
        pixel_at (image_over d valid (map pos bytes)) x y ≡ pos (get_or bytes (y * d.width + x) 0) =
        get_or-map pos bytes (y * d.width + x) 0 in
        let there : pixel_at (image_over d valid (map pos bytes)) x y ≡ f x y =
        ap (λ a. pixel_at a x y) same
        ∙ at-made d.width d.height U8 valid f x y
        (column_inside valid d.width d.height x y room e)
        (row_inside valid d.width d.height x y room e) e in
        let P : ℤ → Type 0 = λ z. IsSample U8 z in
        let fit = fits (y * d.width + x) in
        subst P (sym here ∙ there)
        (record { at_least = omega (arith, ints); at_most = omega (arith, ints, fit) })

-- all rows of an image, once what is outside a rectangle is cleared
pub cleared : (valid : Rectangle) (lent old new : ImageMut)
    → lent.rows ≡ all_rows lent.desc.height
    → target_image old ≡ image_over lent.desc valid (target_image lent).samples
    → old.rows ≡ lent.rows
    → Writes
    (image_from (target_image old).width (target_image old).height (target_image old).format
    (target_image old).valid
    (sample_from old.desc.width old.rows.start (target_image old).samples))
    old new
    → target_image new
    ≡ image_from lent.desc.width lent.desc.height lent.desc.format valid
    (sample_from lent.desc.width 0 (target_image lent).samples)
cleared valid lent old new all value kept is =
    is.value
    ∙ ap
    (λ (a : ImageValue). rows_in old.rows
    (image_from a.width a.height a.format a.valid (sample_from a.width old.rows.start a.samples)))
    value
    ∙ ap
    (λ (rows : Band). rows_in rows
    (image_from lent.desc.width lent.desc.height lent.desc.format valid
    (sample_from lent.desc.width rows.start (target_image lent).samples)))
    (kept ∙ all)
    ∙ all_rows_are
    (image_from lent.desc.width lent.desc.height lent.desc.format valid
    (sample_from lent.desc.width 0 (target_image lent).samples))
    (length-table lent.desc.width lent.desc.height
    (zero_outside valid (sample_from lent.desc.width 0 (target_image lent).samples)))
