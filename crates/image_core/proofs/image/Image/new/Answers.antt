use Rattle.std.proofs.Common.{◌∙◌, refl, sym, subst}
use Rattle.image_core.proofs.Common.{IsImage}
use Rattle.image_core.proofs.HeldRows.{all_held}
use Rattle.image_core.proofs.image.Image.new.Goals as goal

pub of_rows-requires-clause-image : goal.of_rows-requires-clause-image
of_rows-requires-clause-image g c =
    subst IsImage
    (sym (all_held c.args.desc c.args.valid c.whole.result _ _ c.whole.ensures refl))
    c.requires.image

pub returns : goal.returns
returns g c =
    c.of_rows.ensures ∙ all_held c.args.desc c.args.valid c.whole.result _ _ c.whole.ensures refl
