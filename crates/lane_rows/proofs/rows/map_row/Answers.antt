use Rattle.std.proofs.Common.{arith}
use Rattle.lane_rows.proofs.BlockLaws.{blocks}
use Rattle.lane_rows.proofs.rows.map_row.Goals as goal

pub loop-k-preserved : goal.loop-k-preserved
loop-k-preserved g c = grind (arith, blocks)
