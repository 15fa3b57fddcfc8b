use Rattle.std.proofs.Common.{Some, None, refl, sym, ap, cond, ◌∙◌}
use Rattle.object_table.proofs.GraphLemmas.{named_there, none_there}
use Rattle.object_table.proofs.table.Table.get.Goals as goal
use Rattle.object_table.proofs.table.Table.get.Goals.{in_default-via-in-Some+else-entry, in_default-via-in_default}

pub returns-in-Some-clause-ok : goal.returns-in-Some-clause-ok
returns-in-Some-clause-ok c =
    named_there _ _ _ _ c.self.view_is c.self.invariant c.args.name _ (sym c.in-Some.ensures.value)
    ∙ ap (λ b. cond b (Some c.in-Some.entry.now.object) None) c.if-entry.true

pub returns-in_default-clause-err : goal.returns-in_default-clause-err
returns-in_default-clause-err c =
    let there = named_there _ _ _ _ c.self.view_is c.self.invariant c.args.name in
    let none = none_there _ _ _ _ c.self.view_is c.self.invariant c.args.name in (
      refl,
      elim c.in_default.branch [
        | in_default-via-in-Some+else-entry w ↦ there _ (sym w.in-Some.ensures.value)
            ∙ ap (λ b. cond b (Some w.in-Some.entry.now.object) None) w.if-entry.false
        | in_default-via-in_default w ↦ none (sym w.in_default.ensures.value)
      ],
    )
