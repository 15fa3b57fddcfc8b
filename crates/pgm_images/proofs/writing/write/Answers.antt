use Rattle.std.proofs.Common.{◌≡◌, ap, arith}
use Rattle.pgm_images.proofs.Common.{Description, description_of, written_header}
use Rattle.pgm_images.proofs.WritingLemmas.{rows_more, rows_all}
use Rattle.pgm_images.proofs.writing.write.Goals as goal

pub loop-y-preserved : goal.loop-y-preserved
loop-y-preserved c =
    let image = c.args.image.now in
    let high : c.desc-desc.result.height ≡ image.height =
    ap (λ (d : Description). d.height) c.desc-desc.ensures in
    rows_more image c.loop-y.y (written_header (description_of image)) c.loop-y.text.items
    c.row.result.now c.extend_from_slice-in-loop-y.new.self.items
    c.valid-valid.ensures.image (omega arith) c.row.ensures.value
    c.in_ok-extend_from_slice-2.ensures.items c.loop-y.invariant

pub returns : goal.returns
returns c =
    let image = c.args.image.now in
    let high : c.desc-desc.result.height ≡ image.height =
    ap (λ (d : Description). d.height) c.desc-desc.ensures in
    rows_all image c.loop-y.y (written_header (description_of image)) c.loop-y.text.items
    c.valid-valid.ensures.image (omega arith) c.loop-y.invariant
