-- The order in which nodes are added doesn't change a run.
use Rattle.std.proofs.Common.{◌≡◌, ℕ, zero, suc, ◌<◌, Bool, false, List, length, map, refl, sym, ap, subst, ◌∙◌, arith}
use Rattle.graph_run.proofs.Common.{list_any, AllPairs, cases_Bool, Node, Reference, NamedObject, Operand, AllIn, writes, resolved_operand, two_writers, one_writer, In-from_any, any-from_In, AllIn-permutation, AllIn-permutation_back, rounds_of_nodes, run_of_graph, WritesNo, label_of}
use Rattle.std.specs.List.Sorted.{IsPermutation}
use Rattle.std.proofs.lemmas.List.Sorted.{length_permutation}
use Rattle.vx_base.specs.declared.kind.Kind.TheVariants as kind
use Rattle.graph_verify.specs.Rounds as cells
use Rattle.graph_run.proofs.HeldLaws.{seen}
use Rattle.graph_run.proofs.NameLaws.{Rising, rising, same_objects}
use Rattle.graph_run.proofs.NodeLaws.{given_from}
use Rattle.graph_run.proofs.RoundLaws.{round_written, round_other, seen-rounds, labels-rounds}
use Rattle.graph_run.proofs.BegunLaws.{labels-begun, begun-same, WritesNo-begun}

same_any : {X : Type 0} (p : X → Bool) (xs ys : List X)
    → AllIn xs ys
    → AllIn ys xs
    → list_any p xs ≡ list_any p ys
same_any {X} p xs ys to from = grind (arith, cases_Bool, In-from_any, any-from_In)

-- ---- rounds of anything

module _ {N C V : Type 0} (writes : N → C → Bool) (value : N → (C → V) → C → V)
    (nodes others : List N) (one : cells.OneWriter writes nodes) (to : AllIn nodes others)
    (from : AllIn others nodes) where
  pub cell_rounds : (k : ℕ) (held : C → V)
      → cells.rounds writes value nodes k held ≡ cells.rounds writes value others k held
  cell_rounds zero held = refl
  cell_rounds (suc k) held =
      grind (
        arith,
        cell_rounds k held,
        cases_Bool,
        In-from_any,
        round_written,
        round_other,
        same_any,
      )

-- ---- rounds of objects

module _ (nodes others : List Node) (two : two_writers nodes ≡ false) (to : AllIn nodes others)
    (from : AllIn others nodes) (long : length nodes ≡ length others) where
  WritesNo-others : (objects : List NamedObject)
      → WritesNo kind.Delay nodes objects
      → WritesNo kind.Delay others objects
  WritesNo-others objects whole c w = whole c (same_any (λ n. writes n c) nodes others to from ∙ w)

  object_rounds : (k : ℕ) (objects : List NamedObject)
      → Rising (map label_of objects)
      → WritesNo kind.Delay nodes objects
      → rounds_of_nodes nodes k objects ≡ rounds_of_nodes others k objects
  object_rounds k objects up whole =
      let one = one_writer nodes two in
      let labels = labels-rounds nodes k objects in
      let same : seen (rounds_of_nodes nodes k objects) ≡ seen (rounds_of_nodes others k objects) =
      grind (
        arith,
        seen-rounds nodes k objects one whole,
        cell_rounds writes (given_from (seen objects)) nodes others one to from k (seen objects),
        seen-rounds others k objects (λ m n c i j. one m n c (from m i) (from n j))
            (WritesNo-others objects whole),
      ) in
      same_objects (rounds_of_nodes nodes k objects) (rounds_of_nodes others k objects)
      (subst (λ z. Rising z) (sym labels) up) (labels ∙ sym (labels-rounds others k objects))
      (λ c. ap (λ f. f c) same)

  same_resolved : (is : Reference → Operand)
      → resolved_operand is nodes ≡ resolved_operand is others
  same_resolved is = grind (arith, cell_rounds, one_writer)

  same_run : (is : Reference → Operand) (objects : List NamedObject)
      → Rising (map label_of objects)
      → WritesNo kind.Delay nodes objects
      → run_of_graph is nodes objects ≡ run_of_graph is others objects
  same_run is objects up whole =
      grind (arith, object_rounds, Rising, labels-begun, WritesNo-begun, begun-same, same_any)

pub same_graph : (is : Reference → Operand) (nodes others : List Node) (objects : List NamedObject)
    → IsPermutation nodes others
    → two_writers nodes ≡ false
    → AllPairs (λ a b. a.name < b.name) objects
    → WritesNo kind.Delay nodes objects
    → run_of_graph (resolved_operand is nodes) nodes objects
    ≡ run_of_graph (resolved_operand is others) others objects
same_graph is nodes others objects same two names whole =
    let to = AllIn-permutation nodes others same in
    let from = AllIn-permutation_back nodes others same in
    let long = sym (length_permutation nodes others same) in
    same_run nodes others two to from long (resolved_operand is nodes) objects
    (rising objects names) whole
    ∙ ap (λ f. run_of_graph f others objects) (same_resolved nodes others two to from long is)
