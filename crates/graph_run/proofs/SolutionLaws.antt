-- What the rounds give solves a graph, and nothing else does.
use Rattle.std.proofs.Common.{◌≡◌, ◌≢◌, ◌<◌, true, false, List, length, map, sym, ap, subst, ◌∙◌, Option, Some, arith, All, option_map, option_and_then}
use Rattle.graph_run.proofs.Common.{AllPairs, Node, Output, Reference, ObjectValue, object_kind, written_from, NamedObject, object_at, In, writes, feeds, two_writers, rounds_of_nodes, WritesNo, Solves, kind_in, form_of, label_of, any-from_In, one_writer}
use Rattle.vx_base.specs.declared.kind.Kind.TheVariants as kind
use Rattle.graph_verify.specs.Cycle.{has_cycle}
use Rattle.graph_verify.specs.Rounds as cells
use Rattle.graph_verify.specs.Rounds.{IsSolution}
use Rattle.graph_run.specs.Solution.{ReadImages}
use Rattle.graph_verify.proofs.SolutionLemmas as cell_solutions
use Rattle.graph_run.proofs.LinkLaws.{All-from_In, In-from_All, unwritten, is_unwritten}
use Rattle.graph_verify.proofs.NodeVerdictLemmas.{no_twice_each}
use Rattle.graph_run.proofs.ObjectLaws.{shown}
use Rattle.graph_run.proofs.HeldLaws.{seen, kind-form_seen}
use Rattle.graph_run.proofs.NameLaws.{Rising, rising, same_objects}
use Rattle.graph_run.proofs.NodeLaws.{output_at, output_of, given_to, given_from, form-output_of, shown-given_to, shown-given_from, given_holds, holds_given}
use Rattle.graph_run.proofs.RoundLaws.{form-rounds, seen-rounds, labels-rounds}
use Rattle.graph_run.proofs.ValueLaws.{given_first, reads_alone, given_same, same_rounds, Follows-rounds}

-- what is seen of a cell that holds no delay as a whole is what it holds
pub unshown : (o p : Option ObjectValue)
    → option_map object_kind p ≢ Some kind.Delay
    → option_map shown o ≡ option_map shown p
    → o ≡ p
unshown o p whole h = grind arith

kinds_by_forms : (o p : Option ObjectValue)
    → option_map form_of o ≡ option_map form_of p
    → option_map object_kind o ≡ option_map object_kind p
kinds_by_forms o p h = sym (kind-form_seen o) ∙ ap (option_map object_kind) h ∙ kind-form_seen p

-- ---- the rounds give a solution

module _ (nodes : List Node) (objects : List NamedObject) (one : two_writers nodes ≡ false)
    (runs : has_cycle feeds nodes ≡ false) (whole : WritesNo kind.Delay nodes objects) where
  abbrev after : List NamedObject
  after = rounds_of_nodes nodes (length nodes) objects

  abbrev values : Reference → Option ObjectValue
  values = cells.rounds writes (given_first (seen objects)) nodes (length nodes) (seen objects)

  seen_values : seen after ≡ values
  seen_values =
      seen-rounds nodes (length nodes) objects (one_writer nodes one) whole
      ∙ same_rounds nodes (seen objects) (one_writer nodes one) (length nodes)

  values_solve : IsSolution writes (given_first (seen objects)) nodes (seen objects) values
  values_solve =
      cell_solutions.rounds_solve (given_first (seen objects)) nodes (seen objects)
      (reads_alone (seen objects)) one runs

  seen_holds : (n : Node) (c : Reference)
      → In n nodes
      → writes n c ≡ true
      → seen after c ≡ option_map shown (given_from (object_at objects) n (object_at after) c)
  seen_holds n c i w =
      ap (λ f. f c) seen_values
      ∙ values_solve.written n c i w
      ∙ sym
      (given_same nodes (seen objects) values
      (Follows-rounds nodes (seen objects) (one_writer nodes one) (length nodes)) n c i w)
      ∙ ap (λ f. given_from (seen objects) n f c) (sym seen_values)
      ∙ sym (shown-given_from (object_at objects) n (object_at after) c)

  -- each written cell holds what its node gives
  holds : (n : Node) (c : Reference)
      → In n nodes
      → writes n c ≡ true
      → object_at after c ≡ given_from (object_at objects) n (object_at after) c
  holds n c i w =
      unshown (object_at after c) (given_from (object_at objects) n (object_at after) c) plain
      (seen_holds n c i w)
    where
      kinds :
          option_map object_kind (given_from (object_at objects) n (object_at after) c)
          ≡ kind_in objects c
      kinds =
          kinds_by_forms (given_from (object_at objects) n (object_at after) c)
          (object_at objects c)
          (form-output_of n (output_at n c) (object_at after n.in1)
          (option_and_then (object_at after) n.in2) (object_at objects c) (object_at after c)
          (form-rounds nodes (length nodes) objects whole c))

      plain :
          option_map object_kind (given_from (object_at objects) n (object_at after) c) ≢ Some
          kind.Delay
      plain e = whole c (any-from_In (λ m. writes m c) n nodes i w) (sym kinds ∙ e)

  pub rounds_are_solution : Solves nodes objects (rounds_of_nodes nodes (length nodes) objects)
  rounds_are_solution = record {
    labels = labels-rounds nodes (length nodes) objects;
    forms = form-rounds nodes (length nodes) objects whole;
    written =
        All-from_In
        (λ n. All (λ w. object_at after w.0 ≡ Some w.1)
        (written_from (object_at objects) n (object_at after)))
        nodes
        (λ n i. All-from_In (λ w. object_at after w.0 ≡ Some w.1)
        (written_from (object_at objects) n (object_at after))
        (given_holds (object_at objects) n (object_at after) (no_twice_each nodes n one i)
        (λ c w. holds n c i w)));
    others = (λ c h plain. unshown (object_at after c) (object_at objects c) plain
        (ap (λ f. f c) seen_values ∙ values_solve.others c (unwritten nodes c h)));
  }

-- ---- the only one

-- where the first input is an image, what an output holds now doesn't count
same_given : (n : Node) (output : Output) (first second old now : Option ObjectValue)
    → option_map object_kind first ≡ Some kind.Image
    → option_map form_of now ≡ option_map form_of old
    → output_of n output first second old now ≡ output_of n output first second old old
same_given n output first second old now image forms = grind arith

-- of a delay as a whole nothing is seen but that it is one
pub same_seen : (o p : Option ObjectValue)
    → option_map form_of o ≡ option_map form_of p
    → (option_map object_kind p ≢ Some kind.Delay → o ≡ p)
    → option_map shown o ≡ option_map shown p
same_seen o p forms h = grind arith

solution_seen : (nodes : List Node) (before after : List NamedObject)
    → WritesNo kind.Delay nodes before
    → ReadImages nodes before
    → Solves nodes before after
    → IsSolution writes (given_first (seen before)) nodes (seen before) (seen after)
solution_seen nodes before after whole images solves = record {
  written =
      (λ n c i w. ap (option_map shown) (given n c i w)
      ∙ shown-given_to n (object_at after) c (object_at before c) (object_at before c));
  others =
      (λ c h. same_seen (object_at after c) (object_at before c) (solves.forms c)
      (solves.others c (is_unwritten nodes c h)));
}
  where
    image : (n : Node)
        → In n nodes
        → option_map object_kind (object_at after n.in1) ≡ Some kind.Image
    image n i =
        grind (
          arith,
          kinds_by_forms (object_at after n.in1) (object_at before n.in1) (solves.forms n.in1),
          In-from_All (λ m. kind_in before m.in1 ≡ Some kind.Image) nodes images n i,
        )

    given : (n : Node) (c : Reference)
        → In n nodes
        → writes n c ≡ true
        → object_at after c
        ≡ given_to n (object_at after) c (object_at before c) (object_at before c)
    given n c i w =
        holds_given (object_at before) n (object_at after)
        (In-from_All (λ v. object_at after v.0 ≡ Some v.1)
        (written_from (object_at before) n (object_at after))
        (In-from_All
        (λ m. All (λ v. object_at after v.0 ≡ Some v.1)
        (written_from (object_at before) m (object_at after)))
        nodes solves.written n i))
        c w
        ∙ same_given n (output_at n c) (object_at after n.in1)
        (option_and_then (object_at after) n.in2) (object_at before c) (object_at after c)
        (image n i) (solves.forms c)

-- where names increase
pub only_rising : (nodes : List Node) (before after : List NamedObject)
    → two_writers nodes ≡ false
    → has_cycle feeds nodes ≡ false
    → Rising (map label_of before)
    → WritesNo kind.Delay nodes before
    → ReadImages nodes before
    → Solves nodes before after
    → after ≡ rounds_of_nodes nodes (length nodes) before
only_rising nodes before after one runs up whole images solves =
    let start : Reference → Option ObjectValue = seen before in
    same_objects after (rounds_of_nodes nodes (length nodes) before)
    (subst (λ z. Rising z) (sym solves.labels) up)
    (solves.labels ∙ sym (labels-rounds nodes (length nodes) before))
    (λ c.
    cell_solutions.only_solution (given_first start) nodes start (seen after)
    (reads_alone start) one runs (solution_seen nodes before after whole images solves) c
    ∙ ap (λ f. f c) (sym (seen_values nodes before one runs whole)))

pub only_solution : (nodes : List Node) (before after : List NamedObject)
    → two_writers nodes ≡ false
    → has_cycle feeds nodes ≡ false
    → AllPairs (λ a b. a.name < b.name) before
    → WritesNo kind.Delay nodes before
    → ReadImages nodes before
    → Solves nodes before after
    → after ≡ rounds_of_nodes nodes (length nodes) before
only_solution nodes before after one runs names whole images solves =
    only_rising nodes before after one runs (rising before names) whole images solves
