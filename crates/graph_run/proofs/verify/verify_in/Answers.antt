use Rattle.std.proofs.Common.{rules, ◌≡◌, ◌∙◌, IsTrue, map, sym, ap, subst, All}
use Rattle.graph_run.proofs.Common.{Numbered, linked_nodes, AreOperands, is_image, operand_held}
use Rattle.vx_base.specs.Graph.{nodes_of}
use Rattle.graph_run.proofs.FoundLemmas.{images_are, refused_is}
use Rattle.graph_run.proofs.verify.verify_in.Goals as goal

pub verify-requires-clause-images : goal.verify-requires-clause-images
verify-requires-clause-images c =
    let is = operand_held c.args.table.now.objects in
    let nodes : linked_nodes c.deref.result.now ≡ nodes_of c.args.graph.now =
    ap linked_nodes c.deref.ensures.value
    ∙ c.in_ok-nodes.ensures.nodes
    ∙ ap (map (λ (n : Numbered). n.node)) c.nodes.ensures.nodes in
    images_are is c.deref.result.now
    (subst (AreOperands is) (sym c.deref.ensures.value) c.in_ok-nodes.ensures.operands)
    (subst (All (λ n. IsTrue (is_image (is n.in1)))) (sym nodes) c.requires)

pub returns-clause-numbers : goal.returns-clause-numbers
returns-clause-numbers c = search rules

pub returns-clause-refused : goal.returns-clause-refused
returns-clause-refused c =
    let is = operand_held c.args.table.now.objects in
    let nodes : linked_nodes c.deref.result.now ≡ nodes_of c.args.graph.now =
    ap linked_nodes c.deref.ensures.value
    ∙ c.in_ok-nodes.ensures.nodes
    ∙ ap (map (λ (n : Numbered). n.node)) c.nodes.ensures.nodes in
    refused_is is c.deref.result.now (nodes_of c.args.graph.now) c.args.work c.verify.result nodes
    (subst (AreOperands is) (sym c.deref.ensures.value) c.in_ok-nodes.ensures.operands)
    c.verify.ensures.refused
