use Rattle.vx_base.proofs.ImageLaws.{made_of_itself}
use Rattle.vx_base.proofs.laws.images.image_of_own_samples.Goals as goal

pub returns : goal.returns
returns c = made_of_itself
