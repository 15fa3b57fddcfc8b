-- When its turn comes, each node of a graph that can run finds its operands as they were resolved.
use Rattle.std.proofs.Common.{◌≡◌, ◌<◌, ℕ, List, [], ◌∷◌, map, sym, ap, subst, inl, inr, refl, None, rules}
use Rattle.graph_run.proofs.Common.{AllPairs, Node, Reference, written_by, NamedObject, object_at, with_written, Operand, feeds, In, AllIn, operands_of, IsOrder, resolved_operand, verdict, verdict_on, node_fault, runs_alone, named_at_start, objects_at_end, one_by_one, run_of_graph, CellsStand}
use Rattle.graph_verify.proofs.VerdictLemmas.{can_run}
use Rattle.graph_run.proofs.BegunLaws.{labels-begun}
use Rattle.graph_run.proofs.NameLaws.{Rising, rising}
use Rattle.graph_run.proofs.OperandLaws.{no_fault, begun_stands, no_delay, stands_after}
use Rattle.graph_run.proofs.OrderLaws.{rounds_in_order}

-- nodes without faults, run one after the other, leave each operand as it was resolved
stand_on : (is : Reference → Operand) (nodes steps : List Node) (objects : List NamedObject)
    → ((n : Node) → In n nodes → node_fault n.function (operands_of is n) ≡ None)
    → AllIn steps nodes
    → CellsStand is nodes objects → CellsStand is nodes (one_by_one steps objects)
stand_on is nodes [] objects none within stand = stand
stand_on is nodes (n ∷ steps) objects none within stand =
    let i = within n (inl refl) in
    stand_on is nodes steps (with_written objects (written_by n (object_at objects))) none
    (λ m j. within m (inr j)) (stands_after is nodes objects stand n i (none n i))

module _ (work : ℕ) (is : Reference → Operand) (nodes : List Node)
    (runs : verdict work is nodes ≡ None) where
  pub each_alone : (n : Node)
      → In n nodes
      → verdict_on n (operands_of (resolved_operand is nodes) n) ≡ None
  each_alone n i = runs_alone work is nodes n (can_run work is nodes runs) i

  -- whichever nodes have run
  pub at_its_turn : (objects : List NamedObject)
      → CellsStand is nodes objects
      → (steps : List Node)
      → AllIn steps nodes
      → CellsStand (resolved_operand is nodes) nodes
      (one_by_one steps (map (named_at_start (resolved_operand is nodes) nodes) objects))
  at_its_turn objects stand steps within =
      search (rules, stand_on, no_fault, each_alone, begun_stands, can_run)

  -- a run is the nodes in an order in which they can run, each once
  pub run_in_order : (objects : List NamedObject)
      → CellsStand is nodes objects
      → AllPairs (λ a b. a.name < b.name) objects
      → (steps : List Node)
      → IsOrder feeds nodes steps
      → run_of_graph (resolved_operand is nodes) nodes objects
      ≡ objects_at_end objects
      (one_by_one steps (map (named_at_start (resolved_operand is nodes) nodes) objects))
  run_in_order objects stand names steps order =
      let can = can_run work is nodes runs in
      let begin : List NamedObject =
      map (named_at_start (resolved_operand is nodes) nodes) objects in
      ap (objects_at_end objects)
      (rounds_in_order nodes steps begin order can.one_writer
      (subst (λ z. Rising z) (sym (labels-begun (resolved_operand is nodes) nodes objects))
      (rising objects names))
      (no_delay (resolved_operand is nodes) nodes begin
      (begun_stands work is nodes can objects stand)))
