use Rattle.std.proofs.Common.{arith}
use Rattle.client_model.proofs.GraphStepLaws.{remove_node_keeps}
use Rattle.client_contexts.proofs.graphs.remove_node.Goals as goal

pub returns-in-Ok-clause-within_limits : goal.returns-in-Ok-clause-within_limits
returns-in-Ok-clause-within_limits c =
    λ limits h. grind (
      arith,
      remove_node_keeps limits c.args.table.now c.args.graph c.args.number h,
    )
