use Rattle.std.proofs.Common.{map, pos, ap}
use Rattle.lane_rows.proofs.ThreeLaws.{bytes_stored}
use Rattle.lane_rows.proofs.threes.U8SumItem.store.Goals as goal

pub returns : goal.returns
returns c =
    ap (map pos) (bytes_stored c.args.out.now c.args.numbers c.requires.out_len c.requires.len)
