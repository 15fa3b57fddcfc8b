use Rattle.std.proofs.Common.{◌≡◌, Bool, true, false, List, ◌∷◌, arith, ◌||◌}
use Rattle.graph_verify.proofs.Common.{list_any, outputs, Linked, linked_nodes, is_written, two_writers, writes_twice}
use Rattle.graph_verify.proofs.LinkLemmas.{two_writers-cons}
use Rattle.graph_verify.proofs.linked.has_two_writers.Goals as goal

-- whether the first of the rest shares an output, or there are two writers among the others, is
-- what is asked of the rest
of_the_rest :
    {rest : List Linked} {asked : Bool} (first : Linked) (others : List Linked) (shares : Bool)
    → shares
    ≡ (writes_twice first.node || list_any (is_written (linked_nodes others)) (outputs first.node))
    → rest ≡ first ∷ others
    → two_writers (linked_nodes rest) ≡ asked
    → (shares || two_writers (linked_nodes others)) ≡ asked
of_the_rest {rest} {asked} first others shares is split of_all =
    grind (arith, two_writers-cons first.node (linked_nodes others))

pub returns-then-shares_output : goal.returns-then-shares_output
returns-then-shares_output c =
    of_the_rest c.in-Some.linked.now c.in-Some.others.now true c.if-shares_output.ensures
    c.in-Some.ensures.cases.0 c.loop-linked.invariant

pub loop-linked-preserved : goal.loop-linked-preserved
loop-linked-preserved c =
    of_the_rest c.in-Some.linked.now c.in-Some.others.now false c.if-shares_output.ensures
    c.in-Some.ensures.cases.0 c.loop-linked.invariant
