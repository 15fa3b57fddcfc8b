use Rattle.image_core.proofs.BandLaws.{made_written}
use Rattle.image_core.proofs.image_mut.ImageMut.write_by_rows.Goals as goal

pub returns : goal.returns
returns g c =
    let same = c.apply.ensures.slices in
    made_written c.args.self.now c.apply.new.output g.T.Sample.format c.area-self.result
    (g.F.RowFormula.area c.args.formula.now) (g.F.RowFormula.at c.args.formula.now)
    c.requires.target
    (record { rows = same.rows; bytes = same.bytes; shorts = same.shorts; words = same.words })
    c.apply.ensures.value c.requires.format c.area-self.ensures
