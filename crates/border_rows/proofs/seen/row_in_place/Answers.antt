use Rattle.std.proofs.Common.{◌∙◌, w32}
use Rattle.border_rows.proofs.Common.{to_z-of_z}
use Rattle.border_rows.proofs.SeenLaws.{row_is, seen_there, seen_nowhere}
use Rattle.border_rows.proofs.seen.row_in_place.Goals as goal

pub returns-in-Some-clause-value : goal.returns-in-Some-clause-value
returns-in-Some-clause-value c =
    let image = c.args.image.now in
    let border = c.args.border in
    let seen =
    row_is c.args.image.now c.args.border _ _ _ _ (to_z-of_z w32 c.args.y c.ranges.y)
    c.row_seen.ensures.value c.in-Some.is in
    c.part_of_row.ensures.value
    ∙ seen_there image border c.args.x c.in-Some.line c.args.count c.args.y seen
    c.requires.columns.0 c.requires.columns.1

pub returns-in-None-clause-value : goal.returns-in-None-clause-value
returns-in-None-clause-value c =
    let image = c.args.image.now in
    let border = c.args.border in
    let seen =
    row_is c.args.image.now c.args.border _ _ _ _ (to_z-of_z w32 c.args.y c.ranges.y)
    c.row_seen.ensures.value c.in-None.is in
    seen_nowhere image border c.args.x c.args.count c.args.y c.args.off_rows.now seen
    c.requires.off_rows c.requires.room
