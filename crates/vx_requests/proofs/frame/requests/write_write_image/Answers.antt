use Rattle.vx_requests.proofs.RequestFrames.{write_image_frame}
use Rattle.vx_requests.proofs.WrittenPieces.{Writes-first, Writes-then}
use Rattle.vx_requests.proofs.frame.requests.write_write_image.Goals as goal

pub returns-in_err-write_all : goal.returns-in_err-write_all
returns-in_err-write_all g c =
    let samples = c.samples-samples.ensures in
    let joined =
    write_image_frame c.args.client c.args.image c.args.picture.now _ _ _ samples.value
    samples.described c.desc.ensures c.image_head_bytes.ensures in
    Writes-first _ _ _ _ _ _ _ _ c.from_residual.result c.from_residual.ensures.1 joined
    c.in_err-write_all.ensures

pub returns : goal.returns
returns g c =
    let samples = c.samples-samples.ensures in
    let joined =
    write_image_frame c.args.client c.args.image c.args.picture.now _ _ _ samples.value
    samples.described c.desc.ensures c.image_head_bytes.ensures in
    Writes-then _ _ _ _ _ _ _ _ _ _ joined c.in_ok-write_all.ensures c.write_samples.ensures
