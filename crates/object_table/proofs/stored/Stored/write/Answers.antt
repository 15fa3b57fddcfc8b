use Rattle.std.proofs.Common.{◌≡◌, ap, ◌∙◌}
use Rattle.object_table.proofs.Common.{ImageValue, description_of, values}
use Rattle.vx_base.proofs.PictureLaws.{pictured_image}
use Rattle.object_table.proofs.stored.Stored.write.Goals as goal

pub returns-clause-image : goal.returns-clause-image
returns-clause-image c =
    let described : c.self.inside.desc ≡ c.args.picture.now.description =
    ap (λ (image : ImageValue). description_of image) c.self.view_is ∙ c.requires.same in
    rw (
      c.whole-self-inside.ensures,
      ap values c.put.ensures.samples ∙ c.copy_from.ensures.value ∙ c.samples.ensures.value,
      described,
    ) (pictured_image c.args.picture.now c.samples.ensures.picture)
