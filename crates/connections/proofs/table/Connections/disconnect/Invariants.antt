use Rattle.std.proofs.Common.{length}
use Rattle.connections.specs.Connections.{LeavesOthers, clients_of}
use Rattle.connections.proofs.table.Connections.disconnect.Given as goal

abbrev pub invariant-loop : goal.invariant-loop
invariant-loop l = LeavesOthers l.connection l.fn.self l.self

abbrev pub decreases-loop : goal.decreases-loop
decreases-loop l = length (clients_of l.self l.connection)
