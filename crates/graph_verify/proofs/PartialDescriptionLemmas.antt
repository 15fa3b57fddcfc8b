-- The partial descriptions of a graph's cells don't depend on the order of its nodes.
use Rattle.std.proofs.Common.{◌≡◌, ℕ, zero, suc, false, List, [], ◌∷◌, length, ap, arith}
use Rattle.graph_verify.proofs.Common.{cases_Bool, IsPermutation-refl, Node, Reference, Description, PartialDescription, partial_desc_of, Operand, Image, has_cycle, reads, writes, feeds, InTurn, IsOrder, operand_partial_desc, written_partial_desc, partial_descs, as_known, resolved_operand, round, rounds, IsSolution, ReadsAlone, two_writers}
use Rattle.std.proofs.lemmas.Bool.{or_left}
use Rattle.graph_verify.proofs.LinkLemmas.{same_cell-refl, two_writers-permutation}
use Rattle.graph_verify.proofs.MemberLemmas.{AllIn-permutation, AllIn-permutation_back}
use Rattle.graph_verify.proofs.OrderLemmas.{no_cycle_from_order}
use Rattle.graph_verify.proofs.SolutionLemmas.{rounds_solve, only_solution}

module _ (is : Reference → Operand) where
  -- a node gives its outputs what its first input has
  pub reads_alone : ReadsAlone reads (written_partial_desc is)
  reads_alone n a b same c = grind (arith, or_left, same_cell-refl)

  pub partial_descs_solve : (nodes : List Node)
      → two_writers nodes ≡ false
      → has_cycle feeds nodes ≡ false
      → IsSolution writes (written_partial_desc is) nodes (λ c. operand_partial_desc (is c))
      (partial_descs is nodes)
  partial_descs_solve nodes one no_cycle =
      rounds_solve (written_partial_desc is) nodes (λ c. operand_partial_desc (is c))
      reads_alone one no_cycle

  -- steps that are an order have no cycle
  pub no_cycle_in_steps : (steps : List Node) → InTurn feeds steps → has_cycle feeds steps ≡ false
  no_cycle_in_steps steps turn =
      no_cycle_from_order feeds steps steps
      (record { same_nodes = IsPermutation-refl steps; in_turn = turn })

  -- the order of the nodes has no effect
  pub partial_descs-order : (nodes steps : List Node)
      → two_writers nodes ≡ false
      → IsOrder feeds nodes steps
      → (c : Reference)
      → partial_descs is nodes c ≡ partial_descs is steps c
  partial_descs-order nodes steps one order =
      let solves = partial_descs_solve nodes one (no_cycle_from_order feeds nodes steps order) in
      only_solution (written_partial_desc is) steps (λ c. operand_partial_desc (is c))
      (partial_descs is nodes) reads_alone
      (two_writers-permutation nodes steps order.same_nodes one)
      (no_cycle_in_steps steps order.in_turn)
      (record {
        written =
            (λ n c i w. solves.written n c
            (AllIn-permutation_back nodes steps order.same_nodes n i) w);
        others =
            (λ c unwritten. solves.others c
            (λ n i. unwritten n (AllIn-permutation nodes steps order.same_nodes n i)));
      })

  pub resolved-order : (nodes steps : List Node)
      → two_writers nodes ≡ false
      → IsOrder feeds nodes steps
      → (c : Reference)
      → resolved_operand is nodes c ≡ resolved_operand is steps c
  resolved-order nodes steps one order c =
      ap (as_known (is c)) (partial_descs-order nodes steps one order c)

  -- an image that is there is known, whatever the nodes write
  round_keeps :
      (ns : List Node) (held : Reference → PartialDescription) (c : Reference) (d : Description)
      → is c ≡ Image d
      → held c ≡ partial_desc_of d
      → round writes (written_partial_desc is) ns held c ≡ partial_desc_of d
  round_keeps [] held c d image h = h
  round_keeps (n ∷ ns) held c d image h =
      grind (arith, round_keeps ns held c d image h, cases_Bool (writes n c))

  rounds_keep : (nodes : List Node) (k : ℕ) (c : Reference) (d : Description)
      → is c ≡ Image d
      → rounds writes (written_partial_desc is) nodes k (λ e. operand_partial_desc (is e)) c
      ≡ partial_desc_of d
  rounds_keep nodes zero c d image = ap operand_partial_desc image
  rounds_keep nodes (suc k) c d image =
      round_keeps nodes
      (rounds writes (written_partial_desc is) nodes k (λ e. operand_partial_desc (is e))) c d
      image (rounds_keep nodes k c d image)

  pub image_partial_desc : (nodes : List Node) (c : Reference) (d : Description)
      → is c ≡ Image d
      → partial_descs is nodes c ≡ partial_desc_of d
  image_partial_desc nodes c d image = rounds_keep nodes (length nodes) c d image
