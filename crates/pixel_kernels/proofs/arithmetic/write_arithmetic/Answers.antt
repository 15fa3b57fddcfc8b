use Rattle.std.proofs.Common.{rules, ◌∙◌, ap, sym}
use Rattle.pixel_kernels.proofs.Common.{S16, U8, in_format}
use Rattle.vx_base.specs.Description.{Description}
use Rattle.vx_base.specs.Pixelwise.{from_two}
use Rattle.pixel_kernels.proofs.FormatLaws.{short_output}
use Rattle.pixel_kernels.proofs.arithmetic.write_arithmetic.Goals as goal

pub returns-in-U8 : goal.returns-in-U8
returns-in-U8 g c =
    in_format
    (λ f. from_two f (g.K.Arithmetic.formula c.args.kernel.now f) c.args.first.now
    c.args.second.now)
    _ U8 c.args.output.now _ (search rules) c.write_two.ensures

pub returns-in_default : goal.returns-in_default
returns-in_default g c =
    let format = ap (λ (d : Description). d.format) (sym c.desc.ensures) ∙ sym c.format.ensures in
    in_format
    (λ f. from_two f (g.K.Arithmetic.formula c.args.kernel.now f) c.args.first.now
    c.args.second.now)
    _ S16 c.args.output.now _
    (short_output c.args.first.now.format c.args.second.now.format c.args.output.now.desc.format
    c.requires.formats (λ is. c.in_default.not-U8 (sym format ∙ is)))
    c.write_from_shorts.ensures
