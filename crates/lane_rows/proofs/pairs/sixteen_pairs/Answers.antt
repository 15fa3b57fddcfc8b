use Rattle.lane_rows.proofs.Common.{pair_at}
use Rattle.lane_rows.proofs.PairLaws.{sixteen_sums}
use Rattle.lane_rows.proofs.pairs.sixteen_pairs.Goals as goal

pub returns : goal.returns
returns c a b is =
    sixteen_sums (pair_at c.args.row.now a b) c.args.index _ _
    (c.eight_pairs-first.ensures a b is) (c.eight_pairs-second.ensures a b is)
