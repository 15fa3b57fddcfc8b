-- Pictures that are written to images: the refusals, the new context, and the limits that it keeps.
use Rattle.std.proofs.Common.{◌≡◌, ◌∙◌, List, [], Option, Some, None, ℤ, Result, Ok, Err, refl, sym, ap, subst, arith, eq-eqb}
use Rattle.client_contexts.proofs.Common.{IsStrictlyIncreasing, Reference, Description, ImageValue, image_over, description_of, ObjectValue, ImageObject, Rectangle, whole_rectangle, KeepsBlocks, Context, with_objects, with_object, image_value, HoldsImage, image_held, names_of, Refusal, Empty, LimitsValue, write_image, reply_unless, KeepsLimits, IsImageOf, IsImageFor, refusal_for}
use Rattle.vx_base.specs.Picture.{PictureValue, IsPicture, picture_image}
use Rattle.object_table.specs.Object.{with_samples}
use Rattle.object_table.specs.Table.{cell_object}
use Rattle.buffer_plan.proofs.PlanLemmas.{same_format-refl}
use Rattle.graph_run.proofs.CellLemmas.{object_after, image_after, with_object_twice}
use Rattle.client_model.specs.Images.{picture_refusal, write_to}
use Rattle.client_model.proofs.ImageStepLaws.{write_image_keeps}
use Rattle.client_model.proofs.OutcomeLaws.{Keeps}
use Rattle.client_contexts.proofs.BlockLemmas.{image_blocks_kept}

-- ---- refusals

-- a picture of the image's description isn't refused
same_allowed : (d : Description) → picture_refusal d d ≡ None
same_allowed d =
    grind (
      arith,
      same_format-refl d.format,
      eq-eqb d.width d.width refl,
      eq-eqb d.height d.height refl,
    )

-- a refusal of the lookup is one of the write
pub write_refused :
    (image : Result ImageValue Refusal) (c : Context) (cell : Reference) (p : PictureValue)
    (refusal : Refusal)
    → refusal_for image p.description ≡ Some refusal
    → write_to image c cell p ≡ Err refusal
write_refused (Err why) c cell p refusal e = cc
write_refused (Ok image) c cell p refusal e =
    ap
    (λ (r : Option Refusal). reply_unless r Empty
    (with_objects c (with_object c.objects cell (ImageObject (picture_image p)))))
    e

-- ---- a picture that is written

module _ (c : Context) (cell : Reference) (p : PictureValue)
    (found : IsImageFor c.objects cell p.description) where
  abbrev written : Context
  written = with_objects c (with_object c.objects cell (ImageObject (picture_image p)))

  allowed : picture_refusal (description_of found.image) p.description ≡ None
  allowed =
      ap (λ (d : Description). picture_refusal d p.description) found.same
      ∙ same_allowed p.description

  pub write_done : write_image c cell p ≡ Ok (Empty, Some written)
  write_done = rw (found.named.image, allowed)

  pub written_keeps : (limits : LimitsValue)
      → KeepsLimits limits c
      → IsPicture p
      → KeepsLimits limits written
  written_keeps limits h is =
      (subst (Keeps limits c) write_done (write_image_keeps limits c cell p h is)).keeps

  pub written_blocks : IsStrictlyIncreasing (names_of c.objects)
      → KeepsBlocks c.objects written.objects
  written_blocks names =
      image_blocks_kept c.objects names cell found.image (picture_image p) found.named.there
      found.named.held (sym found.same)

-- ---- samples that are taken out and replaced

module _ (c : Context) (cell : Reference) (image : ImageValue)
    (named : IsImageOf c.objects cell image) (after : Context)
    (taken : after ≡ with_objects c
    (with_object c.objects cell
    (with_samples (cell_object c.objects cell) (image_held c.objects cell).valid [])))
  where
    abbrev left : ImageValue
    left =
        image_over (description_of (image_held c.objects cell)) (image_held c.objects cell).valid []

    left_there : cell_object after.objects cell ≡ ImageObject left
    left_there =
        ap (λ (t : Context). cell_object t.objects cell) taken
        ∙ object_after c.objects cell named.there left

    pub takes_samples : HoldsImage after.objects cell
    takes_samples =
        subst (λ (t : Context). HoldsImage t.objects cell) (sym taken)
        (image_after c.objects cell named.there left)

    pub left_description : description_of (image_held after.objects cell) ≡ description_of image
    left_description =
        ap (λ (o : ObjectValue). description_of (image_value o)) left_there
        ∙ ap description_of named.held

    -- then the image has the picture's samples
    pub given_is : (p : PictureValue) (area : Rectangle) (samples : List ℤ) (back : Context)
        → description_of image ≡ p.description
        → area ≡ whole_rectangle p.description.width p.description.height
        → samples ≡ p.samples
        → back
        ≡ with_objects after
        (with_object after.objects cell
        (with_samples (cell_object after.objects cell) area samples))
        → back ≡ with_objects c (with_object c.objects cell (ImageObject (picture_image p)))
    given_is p area samples back same all are put =
        grind (arith, left_there, named.held, with_object_twice)
