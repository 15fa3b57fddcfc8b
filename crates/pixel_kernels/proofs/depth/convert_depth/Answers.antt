use Rattle.std.proofs.Common.{rules}
use Rattle.pixel_kernels.proofs.Common.{S16, U8, from_one, in_format}
use Rattle.vx_base.specs.Pixelwise.{depth_conversion}
use Rattle.pixel_kernels.proofs.depth.convert_depth.Goals as goal

pub returns-in-U8 : goal.returns-in-U8
returns-in-U8 c =
    in_format
    (λ f. from_one f (depth_conversion f c.args.policy c.args.amount) c.args.image.now)
    c.args.output.now.desc.format S16 c.args.output.now c.write_one.new.output (search rules)
    c.write_one.ensures

pub returns-in_default : goal.returns-in_default
returns-in_default c =
    in_format
    (λ f. from_one f (depth_conversion f c.args.policy c.args.amount) c.args.image.now)
    c.args.output.now.desc.format U8 c.args.output.now c.narrow_depth.new.output (search rules)
    c.narrow_depth.ensures
