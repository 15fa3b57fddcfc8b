use Rattle.image_tests.proofs.ImageLaws.{cleared}
use Rattle.image_tests.proofs.images.clear_to.Goals as goal

pub returns-clause-value : goal.returns-clause-value
returns-clause-value c =
    cleared c.args.valid c.args.image.now c.set_valid.new.self c.clear_outside.new.self
    c.requires.rows c.set_valid.ensures.value c.set_valid.ensures.slices.rows
    c.clear_outside.ensures
