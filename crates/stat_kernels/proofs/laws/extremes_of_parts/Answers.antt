use Rattle.stat_kernels.proofs.AlikeLaws.{parts_located}
use Rattle.stat_kernels.proofs.laws.extremes_of_parts.Goals as goal

pub returns : goal.returns
returns c = parts_located
