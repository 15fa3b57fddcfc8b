use Rattle.graph_tests.proofs.BlockLemmas.{enough_with_node}
use Rattle.graph_tests.proofs.graphs.add_not.Goals as goal

pub invariant_of-holdings-2 : goal.invariant_of-holdings-2
invariant_of-holdings-2 c = record {
  owns =
      enough_with_node c.add_node.result _ _ _ _ c.args.holdings.now.pool c.add_node.ensures.ok
      c.add_node.ensures.err c.args.holdings.now.owns;
}
