use Rattle.std.proofs.Common.{◌∙◌}
use Rattle.pixel_kernels.proofs.Common.{written_for}
use Rattle.pixel_kernels.proofs.two.write_two.Goals as goal

pub returns : goal.returns
returns g c =
    written_for c.args.first.now g.T.Sample.format _ _ _ c.args.output.now _ c.requires.size
    (c.meet-area.ensures ∙ cc (c.valid.ensures.value, c.valid-2.ensures.value)) c.write.ensures
