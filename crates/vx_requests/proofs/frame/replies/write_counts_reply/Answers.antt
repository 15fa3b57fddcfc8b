use Rattle.std.proofs.Common.{refl}
use Rattle.vx_requests.proofs.WrittenPieces.{Writes-first, Writes-then, Sends-failed, Sends-flushed}
use Rattle.vx_requests.proofs.TextFrames.{counts_parts}
use Rattle.vx_requests.proofs.frame.replies.write_counts_reply.Goals as goal

pub returns-in_err-write_all : goal.returns-in_err-write_all
returns-in_err-write_all g c =
    let joined =
    counts_parts c.args.client c.args.op c.args.counts.now _ _ c.counts-counts.ensures
    c.head_and_number.ensures in
    Sends-failed _ _ {T = Unit {0}} _ _ _ _ c.from_residual.result c.from_residual.ensures.1
    (Writes-first _ _ _ _ _ _ _ _ _ refl joined c.in_err-write_all.ensures)

pub returns-in_err-write_wide : goal.returns-in_err-write_wide
returns-in_err-write_wide g c =
    let joined =
    counts_parts c.args.client c.args.op c.args.counts.now _ _ c.counts-counts.ensures
    c.head_and_number.ensures in
    Sends-failed _ _ {T = Unit {0}} _ _ _ _ c.from_residual-in_err-write_wide.result
    c.from_residual-in_err-write_wide.ensures.1
    (Writes-then _ _ _ _ _ _ _ _ _ _ joined c.in_ok-write_all.ensures c.in_err-write_wide.ensures)

pub returns : goal.returns
returns g c =
    let joined =
    counts_parts c.args.client c.args.op c.args.counts.now _ _ c.counts-counts.ensures
    c.head_and_number.ensures in
    let flushed = c.flush.ensures in
    Sends-flushed _ _ _ _ _ _ _ _
    (Writes-then _ _ _ _ _ _ _ _ _ _ joined c.in_ok-write_all.ensures c.in_ok-write_wide.ensures)
    flushed.bytes flushed.fault flushed.failed
