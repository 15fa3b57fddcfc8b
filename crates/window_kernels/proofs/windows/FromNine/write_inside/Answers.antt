use Rattle.std.proofs.Common.{pos, length, ◌∙◌, arith}
use Rattle.window_kernels.proofs.Common.{ints, sample_or_border}
use Rattle.window_kernels.proofs.WindowLaws.{nines_inside}
use Rattle.window_kernels.proofs.windows.FromNine.write_inside.Goals as goal

pub returns : goal.returns
returns g c =
    let s = c.args.self.now in
    c.write_row.ensures
    ∙ nines_inside (g.K.OfWindow.formula s.kernel.now) (sample_or_border s.image.now s.border)
    c.args.x _ (length c.args.out.now) (pos c.args.y) _ _ _ _ _ _
    c.row_in_place-above.ensures.value c.row_in_place-here.ensures.value
    c.row_in_place-below.ensures.value
    (omega (arith, ints, c.from-line.ensures)) (omega (arith, ints, c.from-line.ensures))
    (omega (arith, ints, c.from-line.ensures)) (omega arith)
