use Rattle.std.proofs.Common.{refl}
use Rattle.vx_requests.proofs.WrittenPieces.{Writes-first, Writes-then, Sends-failed, Sends-flushed}
use Rattle.vx_requests.proofs.PictureFrames.{text_image_parts, text_image_written}
use Rattle.vx_requests.proofs.frame.replies.write_image_text_reply.Goals as goal

pub returns-in_err-write_all : goal.returns-in_err-write_all
returns-in_err-write_all g c =
    let joined =
    text_image_parts c.args.client c.args.op c.args.image.now c.desc.result _ c.requires.image
    c.desc.ensures c.put_text_head-end.ensures.head in
    Sends-failed _ _ {T = Unit {0}} _ _ _ _ c.from_residual.result c.from_residual.ensures.1
    (Writes-first _ _ _ _ _ _ _ _ _ refl joined c.in_err-write_all.ensures)

pub returns-in_err-write_samples : goal.returns-in_err-write_samples
returns-in_err-write_samples g c =
    let joined =
    text_image_parts c.args.client c.args.op c.args.image.now c.desc.result _ c.requires.image
    c.desc.ensures c.put_text_head-end.ensures.head in
    let written =
    text_image_written c.args.image.now c.samples.result.now _ _ c.requires.format
    c.samples.ensures.value c.samples.ensures.format joined in
    Sends-failed _ _ {T = Unit {0}} _ _ _ _ c.from_residual-in_err-write_samples.result
    c.from_residual-in_err-write_samples.ensures.1
    (Writes-then _ _ _ _ _ _ _ _ _ _ written c.in_ok-write_all.ensures
    c.in_err-write_samples.ensures)

pub returns : goal.returns
returns g c =
    let joined =
    text_image_parts c.args.client c.args.op c.args.image.now c.desc.result _ c.requires.image
    c.desc.ensures c.put_text_head-end.ensures.head in
    let written =
    text_image_written c.args.image.now c.samples.result.now _ _ c.requires.format
    c.samples.ensures.value c.samples.ensures.format joined in
    let flushed = c.flush.ensures in
    Sends-flushed _ _ _ _ _ _ _ _
    (Writes-then _ _ _ _ _ _ _ _ _ _ written c.in_ok-write_all.ensures
    c.in_ok-write_samples.ensures)
    flushed.bytes flushed.fault flushed.failed
