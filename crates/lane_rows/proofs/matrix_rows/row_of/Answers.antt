use Rattle.lane_rows.proofs.MatrixSumLaws.{row_cut}
use Rattle.lane_rows.proofs.matrix_rows.row_of.Goals as goal

pub returns : goal.returns
returns c =
    row_cut c.args.items.now c.from.result c.args.line c.from-step.result c.args.l
    c.from.ensures c.from-step.ensures
