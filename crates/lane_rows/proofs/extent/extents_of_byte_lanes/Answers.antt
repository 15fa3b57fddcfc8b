use Rattle.std.proofs.Common.{◌∙◌, [], pos, map, get_or, ap}
use Rattle.lane_rows.proofs.Common.{length-map, map-append}
use Rattle.lane_rows.proofs.ExtentLaws.{least, greatest, no_block, next_block, one_more}
use Rattle.lane_rows.proofs.extent.extents_of_byte_lanes.Goals as goal

pub loop-block-init : goal.loop-block-init
loop-block-init c = record {
  least = no_block least (pos c.args.first) 32;
  greatest = no_block greatest (pos c.args.first) 32;
}

pub loop-block-preserved : goal.loop-block-preserved
loop-block-preserved c =
    let l = c.loop-block in
    let i = l.block-index in
    let first = pos c.args.first in
    let block = get_or c.args.blocks.now i [] in
    let long = length-map block pos ∙ c.told-blocks i c.loop-block-test.true in
    let more =
    ap (map pos) (one_more c.args.blocks.now i c.loop-block-test.true) ∙ map-append pos _ block in
    record {
      least =
          next_block least first _ (map pos block) _ _ _ 32 long more c.bytes-least.ensures
          l.invariant.least;
      greatest =
          next_block greatest first _ (map pos block) _ _ _ 32 long more
          c.bytes-greatest.ensures l.invariant.greatest;
    }
