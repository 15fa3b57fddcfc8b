use Rattle.std.proofs.Common.{◌∙◌, pos, map, refl}
use Rattle.lane_rows.proofs.ExtentLaws.{least, greatest, row_chosen}
use Rattle.lane_rows.proofs.extent.extent_of_bytes.Goals as goal

pub returns-clause-least : goal.returns-clause-least
returns-clause-least c =
    let cut = c.as_chunks.ensures in
    let lanes = c.extents_of_byte_lanes in
    c.fold_rows.ensures
    ∙ row_chosen least pos c.args.row.now _ _ _ (map pos lanes.result.0) 32 _ 0 c.requires refl
    cut.front cut.back lanes.ensures.least

pub returns-clause-greatest : goal.returns-clause-greatest
returns-clause-greatest c =
    let cut = c.as_chunks.ensures in
    let lanes = c.extents_of_byte_lanes in
    c.fold_rows-2.ensures
    ∙ row_chosen greatest pos c.args.row.now _ _ _ (map pos lanes.result.1) 32 _ 0 c.requires
    refl cut.front cut.back lanes.ensures.greatest
