use Rattle.std.proofs.Common.{map}
use Rattle.object_table.proofs.Common.{Balances, entry_object}
use Rattle.object_table.proofs.table.Table.end.Given as goal

-- what is lent has changed as if the entries that are left were all that is held
abbrev pub invariant-loop-entry : goal.invariant-loop-entry
invariant-loop-entry l =
    Balances l.fn.pool l.pool l.fn.self.objects (map entry_object l.entry-iterator)
