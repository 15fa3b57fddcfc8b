use Rattle.image_core.proofs.Common.{sample_from, target_image}
use Rattle.image_core.proofs.BandLaws.{made_written}
use Rattle.image_core.proofs.image_mut.ImageMut.update.Goals as goal

pub returns : goal.returns
returns g c =
    let same = c.apply.ensures.slices in
    let old = c.args.self.now in
    made_written old c.apply.new.output g.T.Sample.format c.area-self.result
    (g.U.RowUpdate.area c.args.update.now)
    (λ x y. g.U.RowUpdate.next c.args.update.now x y
    (sample_from old.desc.width old.rows.start (target_image old).samples x y))
    c.requires.target
    (record { rows = same.rows; bytes = same.bytes; shorts = same.shorts; words = same.words })
    c.apply.ensures.value c.requires.format c.area-self.ensures
