use Rattle.stat_kernels.proofs.BandLaws.{bands_counted}
use Rattle.stat_kernels.proofs.laws.histograms_of_bands.Goals as goal

pub returns : goal.returns
returns c = bands_counted
