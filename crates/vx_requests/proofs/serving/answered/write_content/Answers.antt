use Rattle.vx_requests.proofs.Common.{err_from_is_err_and}
use Rattle.vx_requests.proofs.ToldReplies.{told_samples, told_text}
use Rattle.vx_requests.proofs.WrittenPieces.{Sends-as, Sends-failed-as}
use Rattle.vx_requests.proofs.serving.answered.write_content.Goals as goal

pub returns-in_ok-write_image_reply-in-Ok-clause-sent :
    goal.returns-in_ok-write_image_reply-in-Ok-clause-sent
returns-in_ok-write_image_reply-in-Ok-clause-sent g c =
    let told =
    told_samples c.args.runtime.now c.args.number c.args.client c.args.op c.args.content.now
    c.in-Samples.image _ c.in-Samples.is c.in-Ok.ensures.ok in
    Sends-as _ _ _ _ _ _ _ _ told c.in_ok-write_image_reply-in-Ok.ensures

pub returns-in_err-write_image_text_reply-in-Ok-text_image-clause-sent :
    goal.returns-in_err-write_image_text_reply-in-Ok-text_image-clause-sent
returns-in_err-write_image_text_reply-in-Ok-text_image-clause-sent g c =
    let p =
    err_from_is_err_and c.from_residual-in_err-write_image_text_reply-in-Ok-text_image.result
    c.from_residual-in_err-write_image_text_reply-in-Ok-text_image.ensures.1 in
    let told =
    told_text c.args.runtime.now c.args.number c.args.client c.args.op c.args.content.now
    c.in-Text.image _ c.in-Text.is c.in-Ok-text_image.ensures.ok in
    rw (p.1, p.2)
    (Sends-failed-as _ _ _ _ _ _ _ told c.in_err-write_image_text_reply-in-Ok-text_image.ensures)

pub returns-in_ok-write_image_text_reply-in-Ok-text_image-clause-sent :
    goal.returns-in_ok-write_image_text_reply-in-Ok-text_image-clause-sent
returns-in_ok-write_image_text_reply-in-Ok-text_image-clause-sent g c =
    let told =
    told_text c.args.runtime.now c.args.number c.args.client c.args.op c.args.content.now
    c.in-Text.image _ c.in-Text.is c.in-Ok-text_image.ensures.ok in
    Sends-as _ _ _ _ _ _ _ _ told c.in_ok-write_image_text_reply-in-Ok-text_image.ensures
