use Rattle.std.proofs.Common.{arith, sym}
use Rattle.object_table.proofs.GraphLemmas.{IsTable-written}
use Rattle.object_table.proofs.table.Table.age.Goals as goal

pub invariant_of-self : goal.invariant_of-self
invariant_of-self c =
    IsTable-written _ _ _ _ _ c.age.new.self _ c.self.invariant (sym c.in-Some.ensures.value)
    (c.get_mut.follows.holds _).0 (grind arith) c.age.ensures.bytes
