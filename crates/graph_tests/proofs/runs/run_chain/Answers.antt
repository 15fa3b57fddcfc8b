use Rattle.std.proofs.Common.{◌≡◌, ◌∙◌, List, sym, ap, subst, All, IsTrue}
use Rattle.vx_base.specs.declared.node.Node.{Node}
use Rattle.vx_base.specs.Graph.{nodes_of}
use Rattle.graph_verify.specs.Operand.{is_image}
use Rattle.graph_verify.specs.Verdict.{verdict}
use Rattle.graph_verify.specs.Verified.{IsVerified}
use Rattle.graph_run.specs.Operands.{operand_held}
use Rattle.graph_run.proofs.LastingLemmas.{Lasts-trans}
use Rattle.graph_tests.proofs.ChainLemmas.{all_find, chain, chain_nodes, first_images, is_graph, names_increase, nodes_are, nodes_under}
use Rattle.graph_tests.proofs.LinkLemmas.{ready}
use Rattle.graph_tests.proofs.runs.run_chain.Goals as goal

pub graph-requires : goal.graph-requires
graph-requires c =
    let (a, b, d, lasts) = c.requires in
    is_graph c.args.table.now.objects a b d lasts

pub verify_in-requires : goal.verify_in-requires
verify_in-requires c =
    let (a, b, d, lasts) = c.requires in
    let objects = c.args.table.now.objects in
    subst (λ (ns : List Node). All (λ n. IsTrue (is_image (operand_held objects n.in1))) ns)
    (sym (ap nodes_of c.graph.ensures ∙ nodes_under objects a b d lasts))
    (first_images objects a b d lasts)

pub run-requires : goal.run-requires
run-requires c =
    let (a, b, d, lasts) = c.requires in
    let objects = c.args.table.now.objects in
    let v = c.in_ok-verified.verified in
    let nodes = nodes_of c.graph.result.now in
    let same : nodes ≡ chain_nodes =
    ap nodes_of c.graph.ensures ∙ nodes_under objects a b d lasts in
    record {
      objects = lasts.objects;
      names = names_increase objects a b d lasts;
      ready = (
        chain_nodes,
        ready objects chain_nodes nodes_are (all_find objects a b d lasts) v 10
            (subst (λ (ns : List Node). IsVerified (operand_held objects) ns v) same
            c.in_ok-verified.ensures.verified)
            (ap (verdict 10 (operand_held objects)) (sym same) ∙ c.in_ok-verified.ensures.ok),
      );
      plan = c.in_ok-plan.ensures.plan;
    }

pub returns : goal.returns
returns c =
    let (a, b, d, lasts) = c.requires in
    (a, b, d, Lasts-trans (chain a b d) _ _ lasts c.run.ensures.lasts)
