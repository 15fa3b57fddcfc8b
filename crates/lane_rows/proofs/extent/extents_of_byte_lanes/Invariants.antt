use Rattle.std.proofs.Common.{pos, map, take}
use Rattle.lane_rows.proofs.Common.{int_max, int_min}
use Rattle.lane_rows.proofs.ExtentLaws.{Chosen, joined}
use Rattle.lane_rows.proofs.extent.extents_of_byte_lanes.Given as goal

abbrev pub invariant-loop-block : goal.invariant-loop-block
invariant-loop-block l = record {
  least :
      Chosen int_min (pos l.first) (map pos (joined (take l.block-index l.blocks))) 32
      (map pos l.least);
  greatest :
      Chosen int_max (pos l.first) (map pos (joined (take l.block-index l.blocks))) 32
      (map pos l.greatest);
}
