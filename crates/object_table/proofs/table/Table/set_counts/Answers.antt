use Rattle.std.proofs.Common.{sym, ap}
use Rattle.object_table.proofs.Common.{object_kind, Kind}
use Rattle.object_table.proofs.EntryLemmas.{kind_under, none_of_kind}
use Rattle.object_table.proofs.GraphLemmas.{IsTable-written}
use Rattle.object_table.proofs.table.Table.set_counts.Goals as goal

pub invariant_of-self : goal.invariant_of-self
invariant_of-self c =
    IsTable-written _ _ _ _ _ c.set_counts.new.self _ c.self.invariant
    (sym c.in-Some.ensures.value) (c.get_mut.follows.holds _).0
    (none_of_kind Kind.Distribution _ _
    (kind_under _ _ _ c.self.view_is _ c.args.name _ (sym c.in-Some.ensures.value) c.requires.kind)
    (ap object_kind c.set_counts.ensures.value) (λ e. cc))
    c.set_counts.ensures.bytes
