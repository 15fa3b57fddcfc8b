use Rattle.std.proofs.Common.{pos, ap, ◌∙◌, sym, int_lt, w32}
use Rattle.lane_rows.proofs.Common.{to_z-of_z}
use Rattle.lane_rows.proofs.ScaleLaws.{below_scaled}
use Rattle.lane_rows.proofs.scales.scaled.Goals as goal

pub returns-then-number-lt0 : goal.returns-then-number-lt0
returns-then-number-lt0 c =
    below_scaled c.args.number c.args.exponent c.ranges.number c.requires
    (sym (ap (λ y. int_lt y (pos 0)) (to_z-of_z w32 c.args.number c.ranges.number))
    ∙ c.if-number-lt0.true)
