-- The order in which the nodes of a graph were added makes no difference to whether it runs, nor to
-- what it leaves.
use Rattle.std.proofs.Common.{◌≡◌, ℕ, ◌≤◌, Bool, false, List, [], ◌∷◌, length, Some, None, Ok, inl, inr, refl, sym, ap, ◌∙◌, arith, ◌&&◌, ◌||◌, not, sum_by}
use Rattle.client_laws.proofs.Common.{list_any, filter, IsPermutation, option_or, fun_ext, Node, Reference, GraphValue, nodes_of, inputs, outputs, aged_under, Context, with_objects, Operand, has_cycle, writes, feeds, In, AllIn, is_virtual, operands_of, resolved_bytes, operand_partial_desc, written_partial_desc, as_known, resolved_operand, rounds, node_fault, reads_unwritten, adds_to_virtual, has_unwritten_input, first_fault, virtual_outputs, work_bytes, verdict, has_cycle-from_cycle, AllIn-permutation_back, CanRun, can_run, run_of_graph, operand_held, no_delay, no_fault, each_alone, Empty, ProcessGraph, LimitsValue, reply_and_state, answer_to, graph_named, graph_verdict, process_found, KeepsLimits, pairs_of}
use Rattle.std.proofs.lemmas.Bool.{false_from_ne_true}
use Rattle.std.proofs.lemmas.List.Sorted.{length_permutation, list_any-IsPermutation, sum_by-IsPermutation}
use Rattle.graph_verify.proofs.CycleLemmas.{cycle_from-has_cycle}
use Rattle.graph_verify.proofs.LinkLemmas.{one_writer, two_writers-permutation}
use Rattle.graph_verify.proofs.MemberLemmas.{AllIn-permutation}
use Rattle.graph_verify.proofs.VerdictLemmas.{by_fault, small_enough}
use Rattle.graph_run.proofs.AddingLaws.{cell_rounds, same_graph}
use Rattle.graph_verify.proofs.VerifyLemmas.{sum_of_outputs}
use Rattle.client_laws.proofs.RunLaws.{graph_stood, outcome_is, done_is}
use Rattle.client_laws.proofs.StandLaws.{cells_stand}

-- ---- what a verdict asks of the nodes, one by one

-- where no node has a fault, there is no first one
no_first_fault : (known : Reference → Operand) (nodes : List Node)
    → ((n : Node) → In n nodes → node_fault n.function (operands_of known n) ≡ None)
    → first_fault known nodes ≡ None
no_first_fault known [] none = refl
no_first_fault known (n ∷ nodes) none =
    ap (λ fault. option_or fault (first_fault known nodes)) (none n (inl refl))
    ∙ no_first_fault known nodes (λ m i. none m (inr i))

-- ---- nodes in another order

module _ (work : ℕ) (is : Reference → Operand) (nodes others : List Node)
    (same : IsPermutation nodes others) (runs : verdict work is nodes ≡ None) where
  can : CanRun work is nodes
  can = can_run work is nodes runs

  from : AllIn others nodes
  from = AllIn-permutation_back nodes others same

  same_known : resolved_operand is nodes ≡ resolved_operand is others
  same_known =
      fun_ext (λ c.
      ap (as_known (is c))
      (ap (λ f. f c)
      (cell_rounds writes (written_partial_desc is) nodes others
      (one_writer nodes can.one_writer) (AllIn-permutation nodes others same) from
      (length nodes) (λ d. operand_partial_desc (is d)))
      ∙ ap
      (λ k. rounds writes (written_partial_desc is) others k (λ d. operand_partial_desc (is d)) c)
      (sym (length_permutation nodes others same))))

  no_cycle : has_cycle feeds others ≡ false
  no_cycle =
      false_from_ne_true (has_cycle feeds others)
      (λ e.
      let cycle = cycle_from-has_cycle feeds others e in
      let there =
      has_cycle-from_cycle feeds nodes (cycle.0, cycle.1, λ n i. from n (cycle.2 n i)) in
      let none = can.no_cycle in
      cc)

  no_unwritten_input : has_unwritten_input is others ≡ false
  no_unwritten_input =
      ap
      (λ (written : Reference → Bool). list_any
      (λ n. list_any (λ c. is_virtual (is c) && not (written c)) (inputs n) || adds_to_virtual is n)
      others)
      (fun_ext (λ c. sym (list_any-IsPermutation (λ n. writes n c) nodes others same)))
      ∙ sym
      (list_any-IsPermutation (λ n. reads_unwritten is nodes n || adds_to_virtual is n) nodes
      others same)
      ∙ can.no_unwritten_input

  none_at_fault : first_fault (resolved_operand is others) others ≡ None
  none_at_fault =
      ap (λ known. first_fault known others) (sym same_known)
      ∙ no_first_fault (resolved_operand is nodes) others
      (λ n i. no_fault n (resolved_operand is nodes) (each_alone work is nodes runs n (from n i)))

  small : work_bytes is others ≤ work
  small =
      let bytes : Reference → ℕ = λ c. resolved_bytes (resolved_operand is nodes c) in
      let by_node : Node → ℕ = λ n. sum_by bytes (filter (λ c. is_virtual (is c)) (outputs n)) in
      let as_many : work_bytes is others ≡ work_bytes is nodes =
      ap
      (λ (known : Reference → Operand). sum_by (λ c. resolved_bytes (known c))
      (virtual_outputs is others))
      (sym same_known)
      ∙ sum_of_outputs is bytes others
      ∙ sum_by-IsPermutation by_node nodes others same
      ∙ sym (sum_of_outputs is bytes nodes) in
      omega (arith, as_many, can.small)

  pub others_run : verdict work is others ≡ None
  others_run =
      by_fault work is others (two_writers-permutation nodes others same can.one_writer)
      no_cycle (sym no_unwritten_input) None (sym none_at_fault)
      ∙ small_enough work is others small

-- ---- graphs

-- a graph with the same nodes in another order leaves the same
pub same_run : (limits : LimitsValue) (c later : Context) (name : ℕ) (graph other : GraphValue)
    → KeepsLimits limits c
    → graph_named c.objects name ≡ Ok graph
    → IsPermutation (nodes_of graph) (nodes_of other)
    → graph.delays ≡ other.delays
    → process_found (Ok graph) limits c ≡ Ok (Empty, Some later)
    → process_found (Ok other) limits c ≡ Ok (Empty, Some later)
same_run limits c later name graph other h is_graph same delays done =
    let nodes = nodes_of graph in
    let is = operand_held c.objects in
    let left = run_of_graph (resolved_operand is nodes) nodes c.objects in
    let ran =
    done_is (graph_verdict limits c.objects graph)
    (with_objects c (aged_under graph.delays left)) later done in
    let run =
    same_graph is nodes (nodes_of other) c.objects same
    (can_run limits.work is nodes ran.0).one_writer (pairs_of c.objects h.names)
    (no_delay is nodes c.objects
    (cells_stand c.objects name nodes (graph_stood limits c name graph h is_graph)))
    in
    rw (others_run limits.work is nodes (nodes_of other) same ran.0, ← run, ← delays, ran.1) refl

-- of requests on two graphs of one client
pub same_answer :
    (limits : LimitsValue) (c later : Context) (one two : ℕ) (graph other : GraphValue)
    → KeepsLimits limits c
    → graph_named c.objects one ≡ Ok graph
    → graph_named c.objects two ≡ Ok other
    → IsPermutation (nodes_of graph) (nodes_of other)
    → graph.delays ≡ other.delays
    → answer_to limits (Some c) (ProcessGraph one) ≡ (Empty, Some later)
    → answer_to limits (Some c) (ProcessGraph two) ≡ (Empty, Some later)
same_answer limits c later one two graph other h is_graph is_other same delays done =
    ap (λ found. reply_and_state c (process_found found limits c)) is_other
    ∙ ap (reply_and_state c)
    (same_run limits c later one graph other h is_graph same delays
    (outcome_is c later (process_found (Ok graph) limits c)
    (ap (λ found. reply_and_state c (process_found found limits c)) (sym is_graph) ∙ done)))

-- runs of the same nodes in another order
pub ruleset any_order = (same_run, same_answer)
