use Rattle.vx_base.proofs.ImageLaws.{at-made, at-made_outside, made_image}
use Rattle.vx_base.proofs.laws.images.formula_samples.Goals as goal

pub returns-clause-image : goal.returns-clause-image
returns-clause-image c = made_image

pub returns-clause-valid : goal.returns-clause-valid
returns-clause-valid c = at-made

pub returns-clause-outside : goal.returns-clause-outside
returns-clause-outside c = at-made_outside
