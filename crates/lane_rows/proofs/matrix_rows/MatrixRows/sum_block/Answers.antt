use Rattle.lane_rows.proofs.Common.{matrix_sum}
use Rattle.lane_rows.proofs.MatrixSumLaws.{block_stored, matrix_sum_fits}
use Rattle.lane_rows.proofs.matrix_rows.MatrixRows.sum_block.Goals as goal

pub returns : goal.returns
returns c =
    block_stored (matrix_sum c.args.self.now) c.args.index _ _ (matrix_sum_fits c.args.self.now)
    c.sum_rows.ensures.even c.sum_rows.ensures.odd
