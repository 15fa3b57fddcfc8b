use Rattle.vx_base.proofs.PixelLaws.{from_two_is, at-from_two}
use Rattle.vx_base.proofs.laws.pixels.from_two_samples.Goals as goal

pub returns-clause-image : goal.returns-clause-image
returns-clause-image c = from_two_is

pub returns-clause-valid : goal.returns-clause-valid
returns-clause-valid c = at-from_two
