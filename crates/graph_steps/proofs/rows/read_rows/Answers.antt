use Rattle.std.proofs.Common.{◌∙◌, ap, sym, subst, refl}
use Rattle.graph_steps.proofs.Common.{IsImage, image_over_rows}
use Rattle.graph_steps.proofs.PlaneLaws.{lent_rows}
use Rattle.graph_steps.proofs.rows.read_rows.Goals as goal

pub of_rows-requires-clause-image : goal.of_rows-requires-clause-image
of_rows-requires-clause-image g c =
    subst IsImage
    (sym
    (ap (image_over_rows c.args.desc c.args.valid c.args.rows)
    (lent_rows g.T.Number.value c.args.desc.width c.args.top c.args.rows c.from.result
    c.from-2.result c.from-width.result c.args.samples.now c.args.samples.now _
    c.from.ensures c.from-2.ensures (c.from-width.ensures ∙ c.width.ensures.value) refl refl)))
    c.requires.image

pub returns : goal.returns
returns g c =
    c.of_rows.ensures
    ∙ ap (image_over_rows c.args.desc c.args.valid c.args.rows)
    (lent_rows g.T.Number.value c.args.desc.width c.args.top c.args.rows c.from.result
    c.from-2.result c.from-width.result c.args.samples.now c.args.samples.now _
    c.from.ensures c.from-2.ensures (c.from-width.ensures ∙ c.width.ensures.value) refl refl)
