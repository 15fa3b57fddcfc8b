use Rattle.lane_rows.proofs.ThresholdLaws.{masks_fit}
use Rattle.lane_rows.proofs.thresholds.I16Tested.between.Goals as goal

pub overflow_cast-up_to : goal.overflow_cast-up_to
overflow_cast-up_to c = masks_fit _ _

pub overflow_cast-result : goal.overflow_cast-result
overflow_cast-result c = masks_fit _ _
