use Rattle.std.proofs.Common.{rules}
use Rattle.connections.proofs.NumberingLemmas.{numbered_new}
use Rattle.connections.proofs.TableLemmas.{shown_new}
use Rattle.connections.proofs.table.Connections.new.Goals as goal

pub invariant_of-result : goal.invariant_of-result
invariant_of-result c = numbered_new _ _ (search rules) (search rules)

pub returns : goal.returns
returns c =
    shown_new c.new.result (record { connections = c.new-2.result; spare = 0 }) c.args.limits
    (search rules) c.new.ensures
