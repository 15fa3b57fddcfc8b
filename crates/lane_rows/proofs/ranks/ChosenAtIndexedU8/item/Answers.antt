use Rattle.std.proofs.Common.{ℕ, pos, ap, ◌∙◌}
use Rattle.lane_rows.proofs.NineLaws.{chosen_number}
use Rattle.lane_rows.proofs.ranks.ChosenAtIndexedU8.item.Goals as goal

pub returns : goal.returns
returns g c =
    let op = g.C.Choice.choice in
    ap pos c.chosen.ensures
    ∙ ap (λ (items : ℕ × ℕ × ℕ). pos (op (op items.0 items.1) items.2)) c.items.ensures
    ∙ chosen_number op g.C.Choice.of_numbers g.met.C.Choice.same c.args.self.now.rows.now
    c.args.index
