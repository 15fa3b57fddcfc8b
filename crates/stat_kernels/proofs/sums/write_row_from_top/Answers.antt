use Rattle.std.proofs.Common.{◌≡◌, ◌∙◌, ◌+◌, ◌-◌, append-nil, ap, arith, map, pos, refl}
use Rattle.stat_kernels.proofs.Common.{sums_row}
use Rattle.stat_kernels.proofs.SumLaws.{own_rows}
use Rattle.stat_kernels.proofs.sums.write_row_from_top.Goals as goal

pub loop-line-init : goal.loop-line-init
loop-line-init c =
    let image = c.args.image.now in
    c.integral_on.ensures.whole image 0 (own_rows image c.valid-valid.ensures.image _) refl
    ∙ append-nil (sums_row image 0)

pub loop-line-preserved : goal.loop-line-preserved
loop-line-preserved c =
    let image = c.args.image.now in
    let line = c.loop-line.line in
    let back : line ≡ line + 1 - 1 = omega arith in
    let above =
    ap (map pos) c.copy_from_slice.ensures.after
    ∙ c.loop-line.invariant
    ∙ ap (sums_row image) back in
    c.integral_on-in-loop-line.ensures.whole image (line + 1)
    (own_rows image c.valid-valid.ensures.image _) (omega arith, above)
    ∙ append-nil (sums_row image (line + 1))
