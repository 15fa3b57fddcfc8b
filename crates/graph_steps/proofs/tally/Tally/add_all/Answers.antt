use Rattle.std.proofs.Common.{◌≡◌, ◌∙◌, ap, arith}
use Rattle.graph_steps.proofs.Common.{Band, Description, all_rows, with_rows_added}
use Rattle.graph_steps.proofs.TallyLaws.{can_add, new_bounded, whole_added}
use Rattle.graph_steps.proofs.tally.Tally.add_all.Goals as goal

pub add-requires-clause-can : goal.add-requires-clause-can
add-requires-clause-can c =
    let t = c.args.self.now in
    can_add 0 c.whole.result c.args.image.now t (omega arith) c.requires.image c.requires.format
    (new_bounded t c.requires.new)

pub returns : goal.returns
returns c =
    let rows : c.whole.result ≡ all_rows c.args.image.now.height =
    c.whole.ensures ∙ ap (λ (d : Description). all_rows d.height) c.desc.ensures in
    c.add.ensures
    ∙ ap (λ (r : Band). with_rows_added r c.args.image.now c.args.self.now) rows
    ∙ whole_added c.args.image.now c.args.self.now c.requires.image c.requires.new
