use Rattle.std.proofs.Common.{refl}
use Rattle.vx_requests.proofs.WrittenTexts.{written_text, refused_text}
use Rattle.vx_requests.proofs.serving.texts.answer_write_image_pgm.Goals as goal

pub returns-in-Ok-write_text-clause-replies : goal.returns-in-Ok-write_text-clause-replies
returns-in-Ok-write_text-clause-replies c =
    written_text c.args.client c.args.op c.args.body.now c.requires c.args.runtime.now
    c.write_text.new.self _ _ c.in-Ok-write_text.reply c.in-Ok.ensures.ok
    c.in-Ok-write_text.ensures.applies

pub returns-in-Err-clause-replies : goal.returns-in-Err-clause-replies
returns-in-Err-clause-replies c =
    rw (c.code.ensures, c.from.ensures)
    (refused_text c.args.client c.args.op c.args.body.now c.requires c.args.runtime.now
    c.args.runtime.now c.in-Err.fault c.in-Err.ensures.err refl)
