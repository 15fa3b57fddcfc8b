use Rattle.std.proofs.Common.{◌≡◌, ◌∙◌, ℕ, List, map, None, sym, ap, subst, All}
use Rattle.std.specs.List.Sorted.{IsStrictlyIncreasing}
use Rattle.vx_base.specs.declared.node.Node.{Node}
use Rattle.vx_base.specs.Graph.{nodes_of}
use Rattle.vx_base.specs.Object.{IsObject}
use Rattle.object_table.specs.NamedObject.{NamedObject}
use Rattle.object_table.specs.Table.{graph_under}
use Rattle.graph_verify.specs.Verdict.{verdict}
use Rattle.graph_verify.specs.Verified.{IsVerified}
use Rattle.graph_run.specs.Operands.{IsReady, operand_held}
use Rattle.graph_tests.proofs.RunLemmas.{both_find, linked, linked_held, linked_names, linked_objects, nodes, nodes_are}
use Rattle.graph_tests.proofs.LinkLemmas.{ready}
use Rattle.graph_tests.proofs.runs.run_two.Goals as goal

pub run-requires : goal.run-requires
run-requires c =
    let a = c.args.input in
    let b = c.args.output in
    let d = c.args.declared in
    let objects : List NamedObject = c.add_node-2.new.self.objects in
    let v = c.in_ok-verified.verified in
    let is : objects ≡ linked a b d =
    linked_held a b d _ _ _ _ _ _ _ _ _ _ c.requires.table c.in_ok-hold.ensures
    c.in_ok-hold-2.ensures c.new.ensures.value c.in_ok-hold-3.ensures c.in_ok-hold-4.ensures
    c.in_ok-not.ensures c.in_ok-add_node.ensures.ok c.in_ok-not-2.ensures
    c.in_ok-add_node-2.ensures.ok in
    let under : nodes_of c.graph.result.now ≡ nodes =
    ap nodes_of (c.graph.ensures ∙ ap (λ (o : List NamedObject). graph_under o 3) is) in
    let verified : IsVerified (operand_held (linked a b d)) nodes v =
    subst (λ (o : List NamedObject). IsVerified (operand_held o) nodes v) is
    (subst (λ (ns : List Node). IsVerified (operand_held objects) ns v) under
    c.in_ok-verified.ensures.verified)
    in
    let allowed : verdict 2 (operand_held (linked a b d)) nodes ≡ None =
    ap (λ (o : List NamedObject). verdict 2 (operand_held o) nodes) (sym is)
    ∙ ap (λ (ns : List Node). verdict 2 (operand_held objects) ns) (sym under)
    ∙ c.in_ok-verified.ensures.ok in
    record {
      objects =
          subst (λ (o : List NamedObject). All (λ n. IsObject n.object) o) (sym is)
          (linked_objects a b d c.requires.input c.requires.output c.prove_sides.ensures);
      names =
          subst
          (λ (o : List NamedObject). IsStrictlyIncreasing
          (map {A = NamedObject} {B = ℕ} (λ n. n.name) o))
          (sym is) (linked_names a b d);
      ready = (
        nodes,
        subst (λ (o : List NamedObject). IsReady o nodes v) (sym is)
            (ready (linked a b d) nodes nodes_are (both_find a b d) v 2 verified allowed),
      );
      plan = c.in_ok-plan.ensures.plan;
    }
