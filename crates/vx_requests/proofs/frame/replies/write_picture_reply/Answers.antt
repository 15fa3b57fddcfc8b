use Rattle.std.proofs.Common.{refl}
use Rattle.vx_requests.proofs.Common.{PictureValue, values}
use Rattle.vx_requests.proofs.WrittenPieces.{Writes-first, Writes-then, Sends-failed, Sends-flushed}
use Rattle.vx_requests.proofs.PictureFrames.{picture_parts}
use Rattle.vx_requests.proofs.frame.replies.write_picture_reply.Goals as goal

pub returns-in_err-write_all : goal.returns-in_err-write_all
returns-in_err-write_all g c =
    let picture : PictureValue =
    record { description = c.args.desc; samples = values c.args.samples.now } in
    let joined =
    picture_parts c.args.client c.args.op picture _ _ _ refl c.requires.described refl
    c.head_and_description.ensures in
    Sends-failed _ _ {T = Unit {0}} _ _ _ _ c.from_residual.result c.from_residual.ensures.1
    (Writes-first _ _ _ _ _ _ _ _ _ refl joined c.in_err-write_all.ensures)

pub returns-in_err-write_samples : goal.returns-in_err-write_samples
returns-in_err-write_samples g c =
    let picture : PictureValue =
    record { description = c.args.desc; samples = values c.args.samples.now } in
    let joined =
    picture_parts c.args.client c.args.op picture _ _ _ refl c.requires.described refl
    c.head_and_description.ensures in
    Sends-failed _ _ {T = Unit {0}} _ _ _ _ c.from_residual-in_err-write_samples.result
    c.from_residual-in_err-write_samples.ensures.1
    (Writes-then _ _ _ _ _ _ _ _ _ _ joined c.in_ok-write_all.ensures
    c.in_err-write_samples.ensures)

pub returns : goal.returns
returns g c =
    let picture : PictureValue =
    record { description = c.args.desc; samples = values c.args.samples.now } in
    let joined =
    picture_parts c.args.client c.args.op picture _ _ _ refl c.requires.described refl
    c.head_and_description.ensures in
    let flushed = c.flush.ensures in
    Sends-flushed _ _ _ _ _ _ _ _
    (Writes-then _ _ _ _ _ _ _ _ _ _ joined c.in_ok-write_all.ensures c.in_ok-write_samples.ensures)
    flushed.bytes flushed.fault flushed.failed
