use Rattle.vx_requests.proofs.RequestFrames.{write_image_pgm_frame}
use Rattle.vx_requests.proofs.WrittenPieces.{Writes-first, Writes-then}
use Rattle.vx_requests.proofs.frame.requests.write_write_image_pgm.Goals as goal

pub returns-in_err-write_all : goal.returns-in_err-write_all
returns-in_err-write_all g c =
    let joined =
    write_image_pgm_frame c.args.client c.args.image c.args.text.now _ _ c.bytes-bytes.ensures
    c.image_pgm_head_bytes.ensures in
    Writes-first _ _ _ _ _ _ _ _ c.from_residual.result c.from_residual.ensures.1 joined
    c.in_err-write_all.ensures

pub returns : goal.returns
returns g c =
    let joined =
    write_image_pgm_frame c.args.client c.args.image c.args.text.now _ _ c.bytes-bytes.ensures
    c.image_pgm_head_bytes.ensures in
    Writes-then _ _ _ _ _ _ _ _ _ _ joined c.in_ok-write_all.ensures c.write_all-2.ensures
