use Rattle.std.proofs.Common.{◌∙◌, ap, sym}
use Rattle.pixel_kernels.proofs.Common.{ImageValue, S16, pixel_at, written_for}
use Rattle.image_core.proofs.BandLaws.{updated_written}
use Rattle.pixel_kernels.proofs.accumulation.add_to_sums.Goals as goal

pub returns : goal.returns
returns g c old is =
    let image = c.args.image.now in
    let sums = c.args.sums.now in
    let f = g.K.OfSum.formula c.args.kernel.now in
    let valid = c.valid-2.ensures ∙ ap (λ (a : ImageValue). a.valid) (sym is) in
    written_for image S16 _ _ (λ x y. f (pixel_at image x y) (pixel_at old x y)) _ _
    c.requires.size (c.meet-area.ensures ∙ cc (c.valid.ensures.value, valid))
    (updated_written sums c.update.new.self old S16 c.meet-area.result
    (λ x y z. f (pixel_at image x y) z) c.requires.target is c.update.ensures)
