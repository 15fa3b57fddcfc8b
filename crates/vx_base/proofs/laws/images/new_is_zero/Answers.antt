use Rattle.vx_base.proofs.ImageLaws.{new_image_is, at-new_image}
use Rattle.vx_base.proofs.laws.images.new_is_zero.Goals as goal

pub returns-clause-image : goal.returns-clause-image
returns-clause-image c = new_image_is

pub returns-clause-zero : goal.returns-clause-zero
returns-clause-zero c = at-new_image
