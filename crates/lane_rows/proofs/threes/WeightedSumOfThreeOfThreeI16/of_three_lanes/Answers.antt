use Rattle.lane_rows.proofs.ThreeLaws.{weighted_made}
use Rattle.lane_rows.proofs.threes.WeightedSumOfThreeOfThreeI16.of_three_lanes.Goals as goal

pub returns : goal.returns
returns c =
    let made =
    weighted_made c.args.a c.args.b c.args.c c.requires.len.0 c.requires.len.1 c.requires.len.2
    c.requires.limit.0 c.requires.limit.1 c.requires.limit.2 in
    record { value = made.0; most = made.1 }
