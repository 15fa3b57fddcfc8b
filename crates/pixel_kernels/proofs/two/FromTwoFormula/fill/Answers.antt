use Rattle.std.proofs.Common.{length}
use Rattle.pixel_kernels.proofs.Common.{pixel_at, zip2_of_runs}
use Rattle.pixel_kernels.proofs.two.FromTwoFormula.fill.Goals as goal

pub returns : goal.returns
returns g c =
    let s = c.args.self.now in
    zip2_of_runs (g.K.OfPair.formula s.kernel.now) (λ k. pixel_at s.first.now k c.args.y)
    (λ k. pixel_at s.second.now k c.args.y) c.args.x (length c.args.out.now) _ _ _
    c.part_of_row-first.ensures.value c.part_of_row-second.ensures.value
    (rw (g.met.T.Pixel.same, g.met.A.Pixel.same, g.met.B.Pixel.same) at c.zip_rows.ensures)
