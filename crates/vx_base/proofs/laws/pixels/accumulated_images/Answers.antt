use Rattle.vx_base.proofs.NodeLaws.{accumulated_image_is}
use Rattle.vx_base.proofs.laws.pixels.accumulated_images.Goals as goal

pub returns : goal.returns
returns c =
    λ n output a old is image is_old h. accumulated_image_is n old.format a is image output old
    h is_old
