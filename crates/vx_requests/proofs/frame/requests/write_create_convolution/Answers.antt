use Rattle.vx_requests.proofs.RequestFrames.{create_convolution_frame}
use Rattle.vx_requests.proofs.WrittenPieces.{Writes-first, Writes-then}
use Rattle.vx_requests.proofs.frame.requests.write_create_convolution.Goals as goal

pub returns-in_err-write_all : goal.returns-in_err-write_all
returns-in_err-write_all g c =
    let kept = c.coefficients-coefficients.ensures in
    let joined =
    create_convolution_frame c.args.client c.args.convolution.now _ _ kept.value kept.size
    c.create_convolution_head.ensures in
    Writes-first _ _ _ _ _ _ _ _ c.from_residual.result c.from_residual.ensures.1 joined
    c.in_err-write_all.ensures

pub returns : goal.returns
returns g c =
    let kept = c.coefficients-coefficients.ensures in
    let joined =
    create_convolution_frame c.args.client c.args.convolution.now _ _ kept.value kept.size
    c.create_convolution_head.ensures in
    Writes-then _ _ _ _ _ _ _ _ _ _ joined c.in_ok-write_all.ensures c.write_wide.ensures
