use Rattle.std.proofs.Common.{refl}
use Rattle.vx_base.specs.declared.format.Format.TheVariants.{U32}
use Rattle.image_core.proofs.BandLaws.{made_written}
use Rattle.image_core.proofs.image_mut.ImageMut.write_whole.Goals as goal

pub returns : goal.returns
returns g c =
    let row = rw (← c.requires.width) at c.fill.ensures in
    rw (← c.requires.width, ← c.requires.height)
    (made_written c.args.self.now _ U32 c.area-self.result (g.W.Whole.area c.args.whole.now)
    (g.W.Whole.at c.args.whole.now)
    c.requires.target (record { rows = refl; bytes = refl; shorts = refl; words = refl })
    (rw (c.requires.format, row) refl) c.requires.format c.area-self.ensures)
