use Rattle.std.proofs.Common.{◌∙◌, ◌||◌, rules, tests}
use Rattle.graph_verify.proofs.Common.{YieldsList-from_slice, any_from_yields_List, linked_nodes, reads_unwritten_virtual, has_virtual_sum}
use Rattle.graph_verify.proofs.UnwrittenLemmas.{unwritten_input-linked}
use Rattle.graph_verify.proofs.linked.has_unwritten_input.Goals as goal

pub returns : goal.returns
returns c is operands =
    let nodes = c.args.nodes.now in
    any_from_yields_List
    (λ l. reads_unwritten_virtual (linked_nodes nodes) l || has_virtual_sum l) _ _ _
    c.any.ensures.ran (YieldsList-from_slice nodes cc) (λ x b q k. search (rules, tests))
    ∙ unwritten_input-linked is (linked_nodes nodes) nodes operands
