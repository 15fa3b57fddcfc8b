use Rattle.std.proofs.Common.{◌∙◌, ap, length, map-id}
use Rattle.lane_rows.proofs.SumLaws.{sums_stored}
use Rattle.lane_rows.proofs.accumulation.add_lanes.Goals as goal

pub returns : goal.returns
returns c =
    let before = c.shorts-before in
    sums_stored c.args.numbers before.result c.fits-numbers
    (ap length (before.ensures.value ∙ map-id c.args.sums.now) ∙ c.requires) before.ensures.fits
    c.args.sums.now before.ensures.value
