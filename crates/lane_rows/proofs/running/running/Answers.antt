use Rattle.lane_rows.proofs.RunningLaws.{running_sums}
use Rattle.lane_rows.proofs.running.running.Goals as goal

pub returns : goal.returns
returns c = running_sums c.args.items c.fits-items.0 c.fits-items.1
