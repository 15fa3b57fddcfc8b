use Rattle.std.proofs.Common.{◌∙◌, map, pos, ap}
use Rattle.lane_rows.proofs.Common.{range_with_len}
use Rattle.lane_rows.proofs.RunLaws.{loaded_is}
use Rattle.lane_rows.proofs.ThreeLaws.{bytes_loaded}
use Rattle.lane_rows.proofs.threes.U8Addend.numbers.Goals as goal

pub returns : goal.returns
returns c =
    ap (λ l. map pos (map (λ n. n) l)) (loaded_is 32 c.args.row.now c.args.index 0 c.requires.room)
    ∙ bytes_loaded c.args.row.now (range_with_len c.args.index 32)
