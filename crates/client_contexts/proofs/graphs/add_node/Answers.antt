use Rattle.std.proofs.Common.{rules, subst, ◌==◌, ap, ◌∙◌, Some, ◌∷◌}
use Rattle.client_contexts.proofs.Common.{OperandsStand, Node, operands, reference_to, operands_refusal, KeepsBut}
use Rattle.vx_base.specs.declared.kind.Kind.TheVariants as kind
use Rattle.client_model.proofs.GraphStepLaws.{add_node_keeps}
use Rattle.client_contexts.proofs.AddLemmas.{names_held, node_added, node_refused}
use Rattle.client_contexts.proofs.graphs.add_node.Goals as goal

pub add_node-requires-clause-held : goal.add_node-requires-clause-held
add_node-requires-clause-held c =
    names_held c.args.table.now.objects c.args.graph c.args.node
    (subst (OperandsStand c.args.table.now.objects c.args.graph) c.node.ensures.value
    c.in_ok-find_graph_for.ensures.operands)

pub returns-in_err-add_node-clause-comes : goal.returns-in_err-add_node-clause-comes
returns-in_err-add_node-clause-comes c =
    let found = c.in_ok-find_graph_for.ensures in
    let known =
    found.err
    ∙ ap
    (λ (n : Node). operands_refusal (Some c.args.graph) c.args.table.now.objects
    ((reference_to c.args.graph, kind.Graph) ∷ operands n))
    c.node.ensures.value in
    let refused =
    node_refused c.requires.0 c.args.table.now c.args.graph c.requires.1 found.ok.0 found.ok.1
    c.args.node known _ c.in_err-add_node.ensures.fault in
    search (rules, refused)

pub returns-clause-comes : goal.returns-clause-comes
returns-clause-comes c =
    let found = c.in_ok-find_graph_for.ensures in
    let added = c.in_ok-add_node.ensures in
    let known =
    found.err
    ∙ ap
    (λ (n : Node). operands_refusal (Some c.args.graph) c.args.table.now.objects
    ((reference_to c.args.graph, kind.Graph) ∷ operands n))
    c.node.ensures.value in
    node_added c.requires.0 c.args.table.now c.args.graph c.requires.1 found.ok.0 found.ok.1
    c.args.node known _ _ added.capacity added.number added.ok

pub returns-clause-within_limits : goal.returns-clause-within_limits
returns-clause-within_limits c = λ limits h.
    (subst (KeepsBut (λ other. c.args.graph == other) limits c.args.table.now)
    (returns-clause-comes c).done
    (add_node_keeps limits c.args.table.now c.args.graph c.args.node h c.node.ensures.node)).keeps
