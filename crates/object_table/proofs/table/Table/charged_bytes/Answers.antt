use Rattle.object_table.proofs.EntryLemmas.{charge_limit}
use Rattle.object_table.proofs.table.Table.charged_bytes.Goals as goal

pub returns-clause-limit : goal.returns-clause-limit
returns-clause-limit c = charge_limit _ _ _ c.self.invariant
