use Rattle.std.proofs.Common.{length}
use Rattle.pixel_kernels.proofs.Common.{pixel_at}
use Rattle.vx_base.proofs.TableLaws.{map_of_run}
use Rattle.pixel_kernels.proofs.one.FromOneFormula.fill.Goals as goal

pub returns : goal.returns
returns g c =
    let s = c.args.self.now in
    map_of_run (g.K.OfItem.formula s.kernel.now) (λ k. pixel_at s.image.now k c.args.y) c.args.x
    (length c.args.out.now) _ _ c.part_of_row-row.ensures.value
    (rw (g.met.T.Pixel.same, g.met.A.Pixel.same) at c.map_row.ensures)
