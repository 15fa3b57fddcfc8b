use Rattle.lane_rows.proofs.RunLaws.{loaded_is}
use Rattle.lane_rows.proofs.nine.lanes_at.Goals as goal

pub returns : goal.returns
returns c = loaded_is 32 c.args.row.now c.args.index 0 c.requires
