use Rattle.std.proofs.Common.{arith}
use Rattle.stat_kernels.proofs.SumLaws.{own_rows}
use Rattle.stat_kernels.proofs.sums.write_integral_rows.Goals as goal

pub returns-then-rows-eq0 : goal.returns-then-rows-eq0
returns-then-rows-eq0 c =
    c.integral_on.ensures.whole c.args.image.now c.args.rows.start
    (own_rows c.args.image.now c.valid-valid.ensures.image c.args.rows) (omega arith)

pub returns-else-rows-eq0 : goal.returns-else-rows-eq0
returns-else-rows-eq0 c =
    c.integral_on-else-rows-eq0.ensures.whole c.args.image.now c.args.rows.start
    (own_rows c.args.image.now c.valid-valid.ensures.image c.args.rows) (
      omega (arith, c.if-rows-eq0.false),
      c.write_row_from_top.ensures,
    )
