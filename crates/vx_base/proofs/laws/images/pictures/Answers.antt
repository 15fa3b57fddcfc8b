use Rattle.vx_base.proofs.PictureLaws.{pictured_image, picture_of_image}
use Rattle.vx_base.proofs.laws.images.pictures.Goals as goal

pub returns-clause-image : goal.returns-clause-image
returns-clause-image c = pictured_image

pub returns-clause-picture : goal.returns-clause-picture
returns-clause-picture c = picture_of_image
