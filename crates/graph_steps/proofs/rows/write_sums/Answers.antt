use Rattle.std.proofs.Common.{◌≡◌, ◌∙◌, ◌*◌, ap, sym, arith, map, pos}
use Rattle.graph_steps.proofs.Common.{U32, band, image_from, row_sums, sum_on, sums_above, written_among, zero_outside}
use Rattle.graph_steps.proofs.SumLaws.{sums_written}
use Rattle.graph_steps.proofs.rows.write_sums.Goals as goal

pub returns : goal.returns
returns c =
    let image = c.args.image.now in
    let rows = c.args.rows in
    let items = c.args.samples.now in
    let wide : c.from-width.result ≡ image.width = c.from-width.ensures ∙ sym c.requires.width in
    sums_written image c.args.top rows c.from.result c.from-2.result c.from-width.result
    c.split_at_mut-above.result.0.now c.split_at_mut-above.result.1.now items
    c.integral_on.new.samples
    (c.from-2.result * c.from-width.result) c.requires.rows c.requires.top c.from.ensures
    c.from-2.ensures wide c.split_at_mut-above.ensures.front c.split_at_mut-above.ensures.back
    c.split_at_mut-above.ensures.front_len (omega arith)
    (c.integral_on.ensures.sums ∙ ap
    (λ o. band image.width rows.start rows.count
    (zero_outside image.valid (sum_on image rows.start (row_sums o))))
    c.row_above.ensures)
    ∙ ap
    (λ w. written_among c.args.top rows
    (image_from image.width image.height U32 image.valid
    (sum_on image rows.start (sums_above w c.args.top rows.start (map pos items))))
    (map pos items))
    c.requires.width
