use Rattle.vx_base.proofs.NodeLaws.{node_image_is}
use Rattle.vx_base.proofs.laws.pixels.results_are_images.Goals as goal

pub returns : goal.returns
returns c =
    λ n output format a second is image objects kinds formats. node_image_is n format a is image
    output second objects kinds formats
