use Rattle.object_table.proofs.UseLemmas.{node_uses}
use Rattle.object_table.proofs.KeptLemmas.{left_of, left-append}
use Rattle.object_table.proofs.table.graphs.end_uses.Goals as goal

pub returns-clause-entries : goal.returns-clause-entries
returns-clause-entries c =
    node_uses left_of left-append c.args.node.now c.args.entries.now.entries
    c.end_use-charge.new.entries.entries c.end_use-charge-2.new.entries.entries
    c.end_use-charge-3.new.entries.entries c.end_use.new.entries.entries
    c.end_use-charge.ensures.entries c.end_use-charge-2.ensures.entries
    c.end_use-charge-3.ensures.entries c.end_use.ensures.entries
