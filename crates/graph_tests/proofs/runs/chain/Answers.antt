use Rattle.std.proofs.Common.{◌≡◌, ◌∙◌, List, map, sym, ap, subst, All}
use Rattle.vx_base.specs.Graph.{GraphValue, new_graph}
use Rattle.vx_base.specs.Object.{ImageObject, GraphObject, IsObject}
use Rattle.object_table.specs.Context.{Context, new_context, with_new}
use Rattle.object_table.specs.NamedObject.{NamedObject}
use Rattle.graph_run.specs.Lasting.{lasting_named}
use Rattle.graph_tests.specs.Chain.{linked_by, chain_image}
use Rattle.graph_tests.proofs.ChainLemmas.{added, chain, chain_objects, step}
use Rattle.graph_tests.proofs.runs.chain.Goals as goal

pub returns : goal.returns
returns c =
    let a = c.args.input in
    let b = c.args.output in
    let d = c.args.declared in
    let images :
    c.hold-2.new.table ≡ with_new (with_new new_context (ImageObject a)) (ImageObject b) =
    step (λ k. with_new k (ImageObject b)) _ _ _ c.in_ok-hold-2.ensures
    (step (λ k. with_new k (ImageObject a)) _ _ _ c.in_ok-hold.ensures c.new-table.ensures) in
    let graph :
    c.hold-3.new.table
    ≡ with_new (with_new (with_new new_context (ImageObject a)) (ImageObject b))
    (GraphObject new_graph) =
    c.in_ok-hold-3.ensures
    ∙ ap (λ (o : GraphValue). with_new c.hold-2.new.table (GraphObject o)) c.new.ensures.value
    ∙ ap (λ (k : Context). with_new k (GraphObject new_graph)) images in
    let virtual :
    c.hold_through-5.new.table ≡ record { next = 9; objects = linked_by new_graph a b d } =
    step (λ k. with_new k (chain_image d)) _ _ _ c.in_ok-hold_through-5.ensures
    (step (λ k. with_new k (chain_image d)) _ _ _ c.in_ok-hold_through-4.ensures
    (step (λ k. with_new k (chain_image d)) _ _ _ c.in_ok-hold_through-3.ensures
    (step (λ k. with_new k (chain_image d)) _ _ _ c.in_ok-hold_through-2.ensures
    (step (λ k. with_new k (chain_image d)) _ _ _ c.in_ok-hold_through.ensures graph)))) in
    let is : c.add_box-6.new.table.objects ≡ chain a b d =
    ap (λ (k : Context). k.objects)
    (added a b d _ _ _ _ c.in_ok-add_box-6.ensures
    (added a b d _ _ _ _ c.in_ok-add_box-5.ensures
    (added a b d _ _ _ _ c.in_ok-add_box-4.ensures
    (added a b d _ _ _ _ c.in_ok-add_box-3.ensures
    (added a b d _ _ _ _ c.in_ok-add_box-2.ensures
    (added a b d _ _ _ _ c.in_ok-add_box.ensures virtual)))))) in (
      a,
      b,
      d,
      record {
        objects =
            subst (λ (o : List NamedObject). All (λ n. IsObject n.object) o) (sym is)
            (chain_objects a b d c.requires.input c.requires.output c.prove_sides.ensures);
        lasting = ap (map lasting_named) is;
      },
    )
