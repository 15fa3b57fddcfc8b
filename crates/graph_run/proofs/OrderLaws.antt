-- Running the nodes once, in order, gives the result of the rounds.
use Rattle.std.proofs.Common.{◌≡◌, ◌<◌, false, List, length, map, sym, ap, subst, ◌∙◌, Option}
use Rattle.graph_run.proofs.Common.{AllPairs, Node, Reference, ObjectValue, NamedObject, feeds, IsOrder, two_writers, one_writer, two_writers-permutation, rounds_of_nodes, one_by_one, WritesNo, label_of}
use Rattle.vx_base.specs.declared.kind.Kind.TheVariants as kind
use Rattle.graph_verify.proofs.OrderLemmas.{steps_from_order}
use Rattle.graph_verify.proofs.SolutionLemmas.{once_through_order}
use Rattle.graph_run.proofs.HeldLaws.{seen}
use Rattle.graph_run.proofs.NameLaws.{Rising, rising, same_objects}
use Rattle.graph_run.proofs.RoundLaws.{seen-rounds, labels-rounds, seen-one_by_one, labels-one_by_one}
use Rattle.graph_run.proofs.ValueLaws.{given_first, reads_alone, same_rounds, same_once}

pub rounds_in_order : (nodes steps : List Node) (objects : List NamedObject)
    → IsOrder feeds nodes steps
    → two_writers nodes ≡ false
    → Rising (map label_of objects)
    → WritesNo kind.Delay nodes objects
    → rounds_of_nodes nodes (length nodes) objects ≡ one_by_one steps objects
rounds_in_order nodes steps objects order two up whole =
    let start : Reference → Option ObjectValue = seen objects in
    let one = one_writer nodes two in
    let from = (steps_from_order feeds nodes steps order).from in
    let labels = labels-rounds nodes (length nodes) objects in
    let same : (c : Reference)
    → seen (rounds_of_nodes nodes (length nodes) objects) c ≡ seen (one_by_one steps objects) c =
    λ c.
    ap (λ f. f c)
    (seen-rounds nodes (length nodes) objects one whole
    ∙ same_rounds nodes start one (length nodes))
    ∙ sym (once_through_order (given_first start) nodes steps start (reads_alone start) two order c)
    ∙ ap (λ f. f c)
    (sym (same_once start steps (two_writers-permutation nodes steps order.same_nodes two))
    ∙ sym (seen-one_by_one nodes steps objects whole from))
    in
    same_objects (rounds_of_nodes nodes (length nodes) objects) (one_by_one steps objects)
    (subst (λ z. Rising z) (sym labels) up)
    (labels ∙ sym (labels-one_by_one steps objects)) same

pub order_gives_rounds : (nodes steps : List Node) (objects : List NamedObject)
    → IsOrder feeds nodes steps
    → two_writers nodes ≡ false
    → AllPairs (λ a b. a.name < b.name) objects
    → WritesNo kind.Delay nodes objects
    → rounds_of_nodes nodes (length nodes) objects ≡ one_by_one steps objects
order_gives_rounds nodes steps objects order two names whole =
    rounds_in_order nodes steps objects order two (rising objects names) whole
