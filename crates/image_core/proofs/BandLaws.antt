-- Bands of output images.
use Rattle.std.proofs.Common.{◌≡◌, ℕ, ℤ, pos, ◌+◌, ◌-◌, ◌*◌, ◌<◌, ◌≤◌, zero, suc, length, refl, ap, ◌∙◌, sym, subst, cond, arith, add-zero}
use Rattle.vx_base.specs.declared.format.Format.{Format}
use Rattle.image_core.proofs.Common.{Band, Description, HaveSameSize, ImageValue, IsInRows, Rectangle, all_rows, band, band-same, image_over, length-band, pixel_at, sample_from, target_image, zero_outside}
use Rattle.vx_base.specs.Rectangle.{has_pixel}
use Rattle.vx_base.specs.Image.{image_from}
use Rattle.vx_base.proofs.ImageLaws.{get_or-table, band_of_table, samples_are_band, same_parts}
use Rattle.image_core.specs.declared.image_mut.ImageMut.{ImageMut}
use Rattle.image_core.specs.Bands.{rows_in}
use Rattle.image_core.proofs.SizeLaws.{same_sides}
use Rattle.image_core.specs.Target.{IsTarget, SameSlices, Writes}

-- the rows of an image that is made of a function
pub rows_made : (d : Description) (format : Format) (r s : Rectangle) (f : ℕ → ℕ → ℤ) (rows : Band)
    → IsInRows d.height rows
    → d.format ≡ format
    → r ≡ s
    → image_over d r (band d.width rows.start rows.count (zero_outside s f))
    ≡ rows_in rows (image_from d.width d.height format s f)
rows_made d format r s f rows room same is =
    rw (is, ← same)
    (ap (image_over d s)
    (sym (band_of_table d.width d.height rows.start rows.count (zero_outside s f) room)))

-- an output whose samples are these rows
pub made_written : (old new : ImageMut) (format : Format) (r s : Rectangle) (f : ℕ → ℕ → ℤ)
    → IsTarget old
    → SameSlices old new
    → target_image new
    ≡ image_over old.desc r (band old.desc.width old.rows.start old.rows.count (zero_outside s f))
    → old.desc.format ≡ format
    → r ≡ s
    → Writes (image_from old.desc.width old.desc.height format s f) old new
made_written old new format r s f target same is known pixel_at =
    let wide : new.desc.width ≡ old.desc.width = ap (λ (a : ImageValue). a.width) is in
    let high : new.desc.height ≡ old.desc.height = ap (λ (a : ImageValue). a.height) is in
    record {
      value = is ∙ rows_made old.desc format r s f old.rows target.rows known pixel_at;
      target = record {
        size =
            cc (
              ap (λ (a : ImageValue). length a.samples) is,
              length-band old.desc.width
                  old.rows.start old.rows.count (zero_outside s f),
              wide,
              same.rows,
            );
        rows =
            subst (λ n. IsInRows n new.rows) (sym high)
            (subst (IsInRows old.desc.height) (sym same.rows) target.rows);
      };
      slices = same;
    }

-- all rows of an image are the image
pub all_rows_are : (image : ImageValue)
    → length image.samples ≡ image.height * image.width
    → rows_in (all_rows image.height) image ≡ image
all_rows_are image size =
    same_parts (rows_in (all_rows image.height) image) image refl refl refl refl
    (samples_are_band image.samples image.width image.height size)

-- ---- equal descriptions of an output

-- an output of an equal image
pub written_same : (image other : ImageValue) (old new : ImageMut)
    → image ≡ other
    → Writes other old new
    → Writes image old new
written_same image other old new is = subst (λ (a : ImageValue). Writes a old new) (sym is)

-- an output in a format that equals the known one
pub in_format : (image : Format → ImageValue) (format known : Format) (old new : ImageMut)
    → format ≡ known
    → Writes (image known) old new
    → Writes (image format) old new
in_format image format known old new is =
    written_same (image format) (image known) old new (ap image is)

-- an output of the input's size
pub written_for :
    (input : ImageValue) (format : Format) (r s : Rectangle) (f : ℕ → ℕ → ℤ) (old new : ImageMut)
    → HaveSameSize (target_image old) input
    → r ≡ s
    → Writes (image_from old.desc.width old.desc.height format r f) old new
    → Writes (image_from input.width input.height format s f) old new
written_for input format r s f old new same is_area is =
    let sides = same_sides (target_image old) input same in rw (← sides.0, ← sides.1, ← is_area) is

-- ---- what an update writes

-- a band is one of rows that are counted from another row
pub band_from : (width start first count : ℕ) (f : ℕ → ℕ → ℤ)
    → band width (start + first) count f ≡ band width first count (λ x y. f x (start + y))
band_from width start first zero f = refl
band_from width start first (suc count) f =
    let next : start + first + 1 ≡ start + (first + 1) = omega arith in
    rw (next, band_from width start (first + 1) count f) refl

-- the sample of a band at a place
pub place_of_band : (width start count x y : ℕ) (f : ℕ → ℕ → ℤ)
    → x < width
    → start ≤ y
    → y < start + count
    → sample_from width start (band width start count f) x y ≡ f x y
place_of_band width start count x y f across above below =
    let back : start + (y - start) ≡ y = omega arith in
    ap (λ n. sample_from width start (band width n count f) x y) (sym (add-zero start))
    ∙ ap (λ zs. sample_from width start zs x y) (band_from width start 0 count f)
    ∙ get_or-table width count x (y - start) (λ x y. f x (start + y)) across (omega arith)
    ∙ ap (f x) back

-- an update of a band writes the band of the updated image
pub updated_written :
    (old new : ImageMut) (before : ImageValue) (format : Format) (r : Rectangle)
    (next : ℕ → ℕ → ℤ → ℤ)
    → IsTarget old
    → rows_in old.rows before ≡ target_image old
    → Writes
    (image_from old.desc.width old.desc.height format r
    (λ x y. next x y (sample_from old.desc.width old.rows.start (target_image old).samples x y)))
    old new
    → Writes
    (image_from old.desc.width old.desc.height format r (λ x y. next x y (pixel_at before x y)))
    old new
updated_written old new before format r next target is written_so =
    let d : Description =
    record { width = old.desc.width; height = old.desc.height; format = format } in
    let from : ℕ → ℕ → ℤ = sample_from d.width old.rows.start (target_image old).samples in
    let made = λ (f : ℕ → ℕ → ℤ). rows_made d format r r f old.rows target.rows refl refl in
    let held : (x y : ℕ)
    → x < d.width
    → old.rows.start ≤ y
    → y < old.rows.start + old.rows.count
    → from x y ≡ pixel_at before x y =
    λ x y across above below.
    ap (λ (a : ImageValue). sample_from d.width old.rows.start a.samples x y) (sym is)
    ∙ ap
    (λ n. sample_from d.width old.rows.start
    (band n old.rows.start old.rows.count (pixel_at before)) x y)
    (ap (λ (a : ImageValue). a.width) is)
    ∙ place_of_band d.width old.rows.start old.rows.count x y (pixel_at before) across above
    below in
    record {
      value =
          written_so.value ∙ sym (made (λ x y. next x y (from x y)))
          ∙ ap (image_over d r)
          (band-same d.width old.rows.start old.rows.count _ _
          (λ x y a b c. ap (λ z. cond (has_pixel r x y) (next x y z) (pos 0)) (held x y a b c)))
          ∙ made (λ x y. next x y (pixel_at before x y));
      target = written_so.target;
      slices = written_so.slices;
    }
