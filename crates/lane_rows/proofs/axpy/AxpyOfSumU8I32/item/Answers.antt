use Rattle.std.proofs.Common.{◌∙◌, w16}
use Rattle.lane_rows.proofs.Common.{to_z-of_z}
use Rattle.lane_rows.proofs.AxpyLaws.{added_one}
use Rattle.lane_rows.proofs.axpy.AxpyOfSumU8I32.item.Goals as goal

pub returns : goal.returns
returns c =
    let s = c.args.self.now in
    added_one s.k c.args.sum c.from.result c.from-2.result c.args.a
    (c.from.ensures ∙ to_z-of_z w16 s.k s.fits) c.from-2.ensures s.fits c.ranges.a.fits
    c.ranges.sum
