use Rattle.std.proofs.Common.{ap, ◌∙◌, pos, map, length}
use Rattle.lane_rows.proofs.Common.{count_of}
use Rattle.lane_rows.proofs.CountLaws.{bytes_counted}
use Rattle.lane_rows.proofs.compared.U8Compared.count_in.Goals as goal

pub returns : goal.returns
returns c =
    let is = c.bytes_of.ensures in
    bytes_counted c.args.self _ (ap length is ∙ c.requires)
    ∙ ap (λ l. count_of (pos c.args.self) (map pos l)) is
