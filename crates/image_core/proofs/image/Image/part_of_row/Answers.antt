use Rattle.image_core.proofs.Common.{pixel_at}
use Rattle.image_core.proofs.RowLaws.{part_of}
use Rattle.image_core.proofs.image.Image.part_of_row.Goals as goal

pub returns-clause-value : goal.returns-clause-value
returns-clause-value g c =
    part_of g.T.Number.value c.row-row.result.now (λ k. pixel_at c.args.self.now k c.args.y)
    c.args.self.now.width c.from.result c.args.x c.args.count
    c.from.ensures c.requires.room c.row-row.ensures.len c.row-row.ensures.value
