use Rattle.lane_rows.proofs.ThresholdLaws.{masks_fit}
use Rattle.lane_rows.proofs.thresholds.I16Tested.above.Goals as goal

pub overflow_cast-result : goal.overflow_cast-result
overflow_cast-result c = masks_fit _ _
