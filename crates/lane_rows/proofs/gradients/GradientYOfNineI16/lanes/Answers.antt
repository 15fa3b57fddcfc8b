use Rattle.std.proofs.Common.{◌∙◌, map-id}
use Rattle.vx_base.proofs.TableLaws.{run-same}
use Rattle.lane_rows.specs.Windows.{three_of}
use Rattle.lane_rows.proofs.GradientLaws.{y_is_y}
use Rattle.lane_rows.proofs.gradients.GradientYOfNineI16.lanes.Goals as goal

pub returns : goal.returns
returns c =
    let nine = c.args.nine.now in
    map-id _
    ∙ c.write_changes.ensures
    ∙ run-same _ _ c.args.index 32
    (λ k _ _. y_is_y (three_of nine.above k) (three_of nine.here k) (three_of nine.below k))
