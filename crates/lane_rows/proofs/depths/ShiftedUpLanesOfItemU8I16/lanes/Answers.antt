use Rattle.std.proofs.Common.{ap, ◌∙◌, w8, w16, of_z, Fits, map-id}
use Rattle.lane_rows.proofs.Common.{Each1-from_get_or}
use Rattle.lane_rows.proofs.DepthLaws.{up_is}
use Rattle.lane_rows.proofs.depths.ShiftedUpLanesOfItemU8I16.lanes.Goals as goal

pub returns : goal.returns
returns c =
    let row = c.args.row.now in
    map-id _ ∙ c.store_32_shorts.ensures
    ∙ rw c.bytes_of.ensures
    (up_is (of_z w16 c.from.result) c.args.self.now.amount row (ap (of_z w16) c.from.ensures)
    c.args.self.now.small
    (c.requires.row_len, Each1-from_get_or (Fits w8) row 0 (λ i _. c.type_inv.row i)))
