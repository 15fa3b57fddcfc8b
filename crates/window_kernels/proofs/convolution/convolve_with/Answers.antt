use Rattle.std.proofs.Common.{rules}
use Rattle.window_kernels.proofs.Common.{S16, U8}
use Rattle.vx_base.specs.Window.{from_matrix}
use Rattle.image_core.proofs.BandLaws.{in_format}
use Rattle.window_kernels.proofs.convolution.convolve_with.Goals as goal

pub returns-in-U8 : goal.returns-in-U8
returns-in-U8 c =
    in_format (λ f. from_matrix f c.args.convolution.now c.args.border c.args.image.now) _ U8
    c.args.output.now _ (search rules) c.write_convolved.ensures

pub returns-in-S16 : goal.returns-in-S16
returns-in-S16 c =
    in_format (λ f. from_matrix f c.args.convolution.now c.args.border c.args.image.now) _ S16
    c.args.output.now _ (search rules) c.write_convolved-in-S16.ensures
