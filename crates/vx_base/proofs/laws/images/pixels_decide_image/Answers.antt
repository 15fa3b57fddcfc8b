use Rattle.vx_base.proofs.ImageLaws.{places_decide}
use Rattle.vx_base.proofs.laws.images.pixels_decide_image.Goals as goal

pub returns : goal.returns
returns c = places_decide
