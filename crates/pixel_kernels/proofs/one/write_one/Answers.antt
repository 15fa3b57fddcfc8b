use Rattle.pixel_kernels.proofs.Common.{written_for}
use Rattle.pixel_kernels.proofs.one.write_one.Goals as goal

pub returns : goal.returns
returns g c =
    written_for c.args.image.now g.T.Sample.format _ _ _ c.args.output.now _ c.requires.size
    c.valid-area.ensures.value c.write.ensures
