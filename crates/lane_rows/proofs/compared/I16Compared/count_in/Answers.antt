use Rattle.std.proofs.Common.{ap, ◌∙◌, map, length}
use Rattle.lane_rows.proofs.Common.{count_of}
use Rattle.lane_rows.proofs.CountLaws.{shorts_counted}
use Rattle.lane_rows.proofs.compared.I16Compared.count_in.Goals as goal

pub returns : goal.returns
returns c =
    let read = c.shorts_of.ensures in
    shorts_counted c.args.self _ (ap length read.value ∙ c.requires) c.ranges.self read.fits
    ∙ ap (λ l. count_of c.args.self (map (λ z. z) l)) read.value
