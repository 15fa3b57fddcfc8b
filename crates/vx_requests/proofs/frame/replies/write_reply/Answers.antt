use Rattle.std.proofs.Common.{subst}
use Rattle.vx_requests.proofs.Common.{PictureValue, values, reply_bytes, spelled_frame, Sends, said_of}
use Rattle.client_model.specs.declared.reply.Reply.TheVariants.{Picture}
use Rattle.vx_requests.proofs.PictureFrames.{picture_is}
use Rattle.vx_requests.proofs.frame.replies.write_reply.Goals as goal

pub returns-in-Described : goal.returns-in-Described
returns-in-Described g c =
    rw c.in-Described.is (rw c.head_and_described.ensures at c.write_small-in-Described.ensures)

pub returns-in-Picture : goal.returns-in-Picture
returns-in-Picture g c =
    let Sent : PictureValue → Type 0 =
    λ picture. Sends g.K.Sink.taken g.K.Sink.failures c.args.sink.now
    c.write_picture_reply.new.sink
    (reply_bytes (spelled_frame c.args.client c.args.op (said_of (Picture picture))))
    c.write_picture_reply.result in
    rw c.in-Picture.is
    (subst Sent
    (picture_is c.in-Picture.picture c.desc.result (values c.samples.result.now) c.desc.ensures
    c.samples.ensures.value)
    c.write_picture_reply.ensures)

pub returns-in-Extremes : goal.returns-in-Extremes
returns-in-Extremes g c =
    rw c.in-Extremes.is (rw c.head_and_extremes.ensures at c.write_small-in-Extremes.ensures)
