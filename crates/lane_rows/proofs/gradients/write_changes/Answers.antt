use Rattle.std.proofs.Common.{rules}
use Rattle.lane_rows.proofs.GradientLaws.{changes_stored}
use Rattle.lane_rows.proofs.gradients.write_changes.Goals as goal

pub returns : goal.returns
returns c =
    changes_stored c.args.from.now c.args.to.now c.args.index c.args.out.now
    c.three_lanes.result c.three_lanes-2.result c.requires.out_len c.three_lanes.ensures
    c.three_lanes-2.ensures (search rules) (search rules)
