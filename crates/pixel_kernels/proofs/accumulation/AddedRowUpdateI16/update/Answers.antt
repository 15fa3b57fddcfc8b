use Rattle.std.proofs.Common.{length, map, pos, ap, ◌∙◌, sym, map-id}
use Rattle.std.specs.Simd.Lanes.{zip2}
use Rattle.pixel_kernels.proofs.Common.{pixel_at, zip2_of_runs}
use Rattle.pixel_kernels.proofs.accumulation.AddedRowUpdateI16.update.Goals as goal

pub returns : goal.returns
returns g c before is =
    let s = c.args.self.now in
    let sums = c.args.row.now in
    map-id c.update_row.new.sums
    ∙ zip2_of_runs (g.K.OfSum.formula s.kernel.now) (λ k. pixel_at s.image.now k c.args.y)
    before c.args.x (length sums) (map pos c.part_of_row-samples.result.now) sums
    c.update_row.new.sums
    c.part_of_row-samples.ensures.value (sym (map-id sums) ∙ is)
    (sym (map-id c.update_row.new.sums) ∙ c.update_row.ensures ∙ ap
    (zip2 (g.K.OfSum.formula s.kernel.now) (map pos c.part_of_row-samples.result.now))
    (map-id sums))
