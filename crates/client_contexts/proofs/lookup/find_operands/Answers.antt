use Rattle.client_contexts.proofs.ScopeLemmas.{operands_found}
use Rattle.client_contexts.proofs.lookup.find_operands.Goals as goal

pub returns-clause-found : goal.returns-clause-found
returns-clause-found c =
    let objects = c.args.table.now.objects in
    let n = c.args.node.now in
    let pair = c.in_ok-in1.ensures.ok in
    let reads = rw pair.0 at c.both.ensures.ok in
    let writes = rw pair.1 at c.both-2.ensures.ok in
    operands_found objects n c.parameters-parameters.result c.unwrap_or-second.result
    c.parameters-parameters.ensures
    (rw c.parameters-parameters.ensures at c.unwrap_or-second.ensures)
    (rw reads.0 at c.find_operand-in1.ensures.found)
    (rw reads.1 at c.find_if_given-in2.ensures.found)
    (rw writes.0 at c.find_if_given-out1.ensures.found)
    (rw writes.1 at c.find_if_given-out2.ensures.found)
