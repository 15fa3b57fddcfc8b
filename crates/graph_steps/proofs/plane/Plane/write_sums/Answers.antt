use Rattle.std.proofs.Common.{◌∙◌, ap, sym, map, pos, drop, length, take_at}
use Rattle.graph_steps.proofs.Common.{samples_format, scan_image, the_view, values, with_rows}
use Rattle.graph_steps.proofs.SumLaws.{plane_summed}
use Rattle.graph_steps.proofs.plane.Plane.write_sums.Goals as goal

pub returns : goal.returns
returns c =
    let image = c.args.image.now in
    let band = c.args.band in
    let items = c.in-U32.samples.items in
    let new = c.write_sums.new.samples in
    plane_summed (the_view c.self.inside) image band _ _ _ (map pos c.as_mut_slice.result.now) _
    c.valid-self-inside.ensures.value (sym (ap samples_format c.in-U32.is))
    (ap (map pos) c.as_mut_slice.ensures.value ∙ sym (ap values c.in-U32.is))
    c.width-width.ensures.value
    (ap (map pos)
    (take_at new (drop (length new) items) c.in-U32.samples.len
    (c.write_sums.auto.samples ∙ c.as_mut_slice.ensures.len))
    ∙ c.write_sums.ensures)
    ∙ ap (λ q. with_rows band (scan_image band.start image q) q) c.self.view_is
