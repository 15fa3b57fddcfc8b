use Rattle.std.proofs.Common.{IsTrue, rules}
use Rattle.graph_verify.proofs.Common.{can_add}
use Rattle.graph_verify.proofs.GraphLemmas.{IsGraph-with_node}
use Rattle.graph_verify.proofs.graph.Graph.add_node.Goals as goal

pub invariant_of-self-2 : goal.invariant_of-self-2
invariant_of-self-2 c =
    let capacity :
    IsTrue
    (can_add
    (record {
      next = c.self.inside.next;
      nodes = c.self.inside.nodes.items;
      delays =
          c.self.inside.delays.items;
    }))
    =
    search rules in
    rw (
      c.push.ensures.items,
      c.if-is_err.ensures.negation,
    ) (IsGraph-with_node _ c.args.node c.self.invariant capacity c.node-fields.ensures.node)
