use Rattle.std.proofs.Common.{refl}
use Rattle.vx_requests.proofs.WrittenPieces.{Writes-first, Writes-then, Sends-failed, Sends-flushed}
use Rattle.vx_requests.proofs.TextFrames.{text_parts}
use Rattle.vx_requests.proofs.frame.replies.write_text_reply.Goals as goal

pub returns-in_err-write_all : goal.returns-in_err-write_all
returns-in_err-write_all g c =
    let joined =
    text_parts c.args.client c.args.op c.args.text.now _ _ c.bytes-bytes.ensures
    c.head_before.ensures in
    Sends-failed _ _ {T = Unit {0}} _ _ _ _ c.from_residual.result c.from_residual.ensures.1
    (Writes-first _ _ _ _ _ _ _ _ _ refl joined c.in_err-write_all.ensures)

pub returns-in_err-write_all-2 : goal.returns-in_err-write_all-2
returns-in_err-write_all-2 g c =
    let joined =
    text_parts c.args.client c.args.op c.args.text.now _ _ c.bytes-bytes.ensures
    c.head_before.ensures in
    Sends-failed _ _ {T = Unit {0}} _ _ _ _ c.from_residual-in_err-write_all-2.result
    c.from_residual-in_err-write_all-2.ensures.1
    (Writes-then _ _ _ _ _ _ _ _ _ _ joined c.in_ok-write_all.ensures c.in_err-write_all-2.ensures)

pub returns : goal.returns
returns g c =
    let joined =
    text_parts c.args.client c.args.op c.args.text.now _ _ c.bytes-bytes.ensures
    c.head_before.ensures in
    let flushed = c.flush.ensures in
    Sends-flushed _ _ _ _ _ _ _ _
    (Writes-then _ _ _ _ _ _ _ _ _ _ joined c.in_ok-write_all.ensures c.in_ok-write_all-2.ensures)
    flushed.bytes flushed.fault flushed.failed
