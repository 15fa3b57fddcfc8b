use Rattle.std.proofs.Common.{sym, ap, ◌∙◌}
use Rattle.object_table.proofs.Common.{nodes_in}
use Rattle.object_table.proofs.EntryLemmas.{image_there, no_nodes}
use Rattle.object_table.proofs.GraphLemmas.{IsTable-written}
use Rattle.object_table.proofs.table.Table.write.Goals as goal

pub invariant_of-self : goal.invariant_of-self
invariant_of-self c =
    let there =
    image_there _ _ _ c.self.view_is c.args.cell _ _ c.name.ensures.value c.slot.ensures.value _
    (sym c.in-Some.ensures.value) c.requires.there in
    IsTable-written _ _ _ _ _ c.write.new.self _ c.self.invariant (sym c.in-Some.ensures.value)
    (c.get_mut.follows.holds _).0 (ap nodes_in c.write.ensures.value ∙ no_nodes _ _ _ there)
    c.write.ensures.bytes
