use Rattle.std.proofs.Common.{refl}
use Rattle.graph_run.proofs.Common.{operand_held}
use Rattle.graph_run.proofs.FoundLemmas.{linked_more}
use Rattle.graph_run.proofs.verify.linked.Goals as goal

pub loop-numbered-preserved : goal.loop-numbered-preserved
loop-numbered-preserved c =
    let more =
    linked_more (operand_held c.args.table.now.objects) c.args.nodes.now
    c.loop-numbered.numbered-index c.numbered-item.result c.loop-numbered.linked.items
    c.push.new.self.items
    (record {
      number = c.numbered-item.result.number;
      node = c.node-node.result;
      operands =
          c.operands_held-operands.result;
    })
    c.loop-numbered-test.true c.numbered-item.is c.loop-numbered.invariant.nodes
    c.loop-numbered.invariant.numbers c.loop-numbered.invariant.operands
    refl c.node-node.ensures.value c.operands_held-operands.ensures c.in_ok-push.ensures.items in
    record { nodes = more.0; numbers = more.1; operands = more.2 }
