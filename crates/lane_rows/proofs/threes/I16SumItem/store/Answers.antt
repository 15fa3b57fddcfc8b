use Rattle.std.proofs.Common.{◌∙◌, map-id}
use Rattle.lane_rows.proofs.ThreeLaws.{shorts_stored}
use Rattle.lane_rows.proofs.threes.I16SumItem.store.Goals as goal

pub returns : goal.returns
returns c =
    map-id _
    ∙ shorts_stored c.args.out.now c.args.numbers c.requires.out_len c.requires.len c.requires.limit
