use Rattle.lane_rows.proofs.DepthLaws.{shifted}
use Rattle.lane_rows.proofs.depths.ShiftedUpOfItemU8I16.item.Goals as goal

pub returns : goal.returns
returns c =
    shifted c.args.a c.from.result c.args.self.now.amount c.from.ensures c.ranges.a.fits
    c.args.self.now.small
