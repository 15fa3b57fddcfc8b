use Rattle.std.proofs.Common.{◌∙◌, map-id}
use Rattle.vx_base.proofs.TableLaws.{run-same}
use Rattle.lane_rows.specs.Windows.{three_of}
use Rattle.lane_rows.proofs.GradientLaws.{x_is_x}
use Rattle.lane_rows.proofs.gradients.GradientXOfNineI16.lanes.Goals as goal

pub returns : goal.returns
returns c =
    let nine = c.args.nine.now in
    map-id _
    ∙ c.write_changes.ensures
    ∙ run-same _ _ c.args.index 32
    (λ k _ _. x_is_x (three_of nine.above k) (three_of nine.here k) (three_of nine.below k))
