use Rattle.std.proofs.Common.{map, take, to_z, w16, FitsSigned}
use Rattle.lane_rows.proofs.Common.{Each1, int_max, int_min}
use Rattle.lane_rows.proofs.ExtentLaws.{Chosen, joined}
use Rattle.lane_rows.proofs.extent.extents_of_short_lanes.Given as goal

abbrev pub invariant-loop-block : goal.invariant-loop-block
invariant-loop-block l = record {
  least : Chosen int_min l.first (joined (take l.block-index l.blocks)) 16 (map (to_z w16) l.least);
  greatest :
      Chosen int_max l.first (joined (take l.block-index l.blocks)) 16 (map (to_z w16) l.greatest);
  least_fits : Each1 (FitsSigned w16) (map (to_z w16) l.least);
  greatest_fits : Each1 (FitsSigned w16) (map (to_z w16) l.greatest);
}
