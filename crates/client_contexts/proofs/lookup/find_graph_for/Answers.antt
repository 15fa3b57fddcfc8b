use Rattle.client_contexts.proofs.ScopeLemmas.{found_stand}
use Rattle.client_contexts.proofs.lookup.find_graph_for.Goals as goal

pub returns-clause-operands : goal.returns-clause-operands
returns-clause-operands c =
    found_stand c.args.graph c.args.table.now.objects c.args.node.now
    c.find_operands-operands.result c.in_ok-both.field-0.1 c.in_ok-both.ensures.ok.1
    c.find_operands-operands.ensures.found
    c.find_operands-operands.ensures.err
