use Rattle.std.proofs.Common.{arith, sym, ap, ◌∙◌}
use Rattle.object_table.proofs.Common.{nodes_in}
use Rattle.object_table.proofs.AgeLemmas.{none_to_age, shown_aged}
use Rattle.object_table.proofs.GraphLemmas.{IsTable-written}
use Rattle.object_table.proofs.table.Table.age_if_held.Goals as goal

pub returns-in_default : goal.returns-in_default
returns-in_default c =
    rw c.get_mut.follows.holds-at-none
    (c.self.view_is ∙ none_to_age _ _ _ c.self.view_is c.args.name (sym c.in_default.ensures.value))

pub invariant_of-self-2 : goal.invariant_of-self-2
invariant_of-self-2 c =
    IsTable-written _ _ _ _ _ c.age.new.self _ c.self.invariant (sym c.in-Some.ensures.value)
    (c.get_mut.follows.holds _).0
    (ap nodes_in c.age.ensures.value ∙ (grind arith)) c.age.ensures.bytes

pub returns : goal.returns
returns c =
    shown_aged _ _ _ c.self.view_is c.args.name _ c.age.new.self _ (sym c.in-Some.ensures.value)
    c.get_mut.ensures.ordered (c.get_mut.follows.holds _).0 c.age.ensures.value
