use Rattle.vx_base.proofs.PixelLaws.{from_one_is, at-from_one}
use Rattle.vx_base.proofs.laws.pixels.from_one_samples.Goals as goal

pub returns-clause-image : goal.returns-clause-image
returns-clause-image c = from_one_is

pub returns-clause-valid : goal.returns-clause-valid
returns-clause-valid c = at-from_one
