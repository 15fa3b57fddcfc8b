-- Runs of the nodes of a graph, whatever the values of cells are.
use Rattle.std.proofs.Common.{◌≡◌, false, List, length, sym}
use Rattle.graph_verify.proofs.Common.{Node, Reference, reads, writes, feeds, has_cycle, IsOrder, rounds, one_pass, OneWriter, IsSolution, ReadsAlone, two_writers}
use Rattle.graph_verify.proofs.LinkLemmas.{feeds_is, one_writer}
use Rattle.graph_verify.proofs.OrderLemmas.{AreStepsOf, steps_from_order, steps_from_no_cycle}
use Rattle.graph_verify.proofs.RoundLemmas as runs

module _ {V : Type 0} (value : Node → (Reference → V) → Reference → V) where
  one_writer_in : (nodes steps : List Node)
      → two_writers nodes ≡ false
      → AreStepsOf feeds nodes steps
      → OneWriter writes steps
  one_writer_in nodes steps one o =
      λ m n c i j. one_writer nodes one m n c (o.from m i) (o.from n j)

  pub once_through_order : (nodes steps : List Node) (held : Reference → V)
      → ReadsAlone reads value
      → two_writers nodes ≡ false
      → IsOrder feeds nodes steps
      → (c : Reference)
      → one_pass writes value steps held c ≡ rounds writes value nodes (length nodes) held c
  once_through_order nodes steps held alone one order c =
      let o = steps_from_order feeds nodes steps order in
      sym
      (runs.once_is_rounds reads writes feeds value feeds_is alone nodes steps held o.in_turn
      o.to o.from o.long (one_writer_in nodes steps one o) c)

  pub rounds_solve : (nodes : List Node) (held : Reference → V)
      → ReadsAlone reads value
      → two_writers nodes ≡ false
      → has_cycle feeds nodes ≡ false
      → IsSolution writes value nodes held (rounds writes value nodes (length nodes) held)
  rounds_solve nodes held alone one no_cycle =
      let found = steps_from_no_cycle feeds nodes no_cycle in
      let o = found.1 in
      runs.rounds_solve reads writes feeds value feeds_is alone nodes found.0 held o.in_turn
      o.to o.from o.long (one_writer_in nodes found.0 one o)

  pub only_solution : (nodes : List Node) (held after : Reference → V)
      → ReadsAlone reads value
      → two_writers nodes ≡ false
      → has_cycle feeds nodes ≡ false
      → IsSolution writes value nodes held after
      → (c : Reference)
      → after c ≡ rounds writes value nodes (length nodes) held c
  only_solution nodes held after alone one no_cycle solves c =
      let found = steps_from_no_cycle feeds nodes no_cycle in
      let o = found.1 in
      sym
      (runs.solution_is_rounds reads writes feeds value feeds_is alone nodes found.0 held after
      o.in_turn o.to o.from o.long solves c)
