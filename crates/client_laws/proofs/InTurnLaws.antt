-- A graph without a cycle has an order in which its nodes can run.
use Rattle.std.proofs.Common.{◌≡◌, ℕ, zero, suc, ◌≤◌, Bool, false, List, [], ◌∷◌, ◌++◌, length, get_or, Option, Some, None, refl, arith, not, position}
use Rattle.client_laws.proofs.Common.{IsPermutation, not-false, Node, has_cycle, feeds, has_cycle-from_cycle}
use Rattle.std.specs.List.{remove}
use Rattle.std.proofs.lemmas.Bool.{not-true}
use Rattle.std.proofs.lemmas.List.{get_or_default}
use Rattle.std.proofs.lemmas.List.Edits.{length-remove}
use Rattle.std.proofs.lemmas.List.Quantifiers.{position-Some}
use Rattle.std.proofs.lemmas.List.Sorted.{IsPermutation-refl, IsPermutation-more}
use Rattle.graph_verify.specs.Order.{IsOrder}
use Rattle.graph_verify.proofs.MemberLemmas.{position-None}
use Rattle.graph_verify.proofs.OrderLemmas.{is_fed, InTurnThen, InTurnThen-next, IsOrder-from_then, cycle_from_stuck}

module _ (nodes : List Node) (no_cycle : has_cycle feeds nodes ≡ false) where
  abbrev HasOrder : Type 0
  HasOrder = (order : List Node) × IsOrder feeds nodes order

  -- some are in order, and at most k are left
  order_from : (k : ℕ) (steps rest : List Node)
      → length rest ≤ k
      → IsPermutation nodes (steps ++ rest)
      → InTurnThen feeds steps rest
      → HasOrder
  order_from k steps [] few same turn = (steps, IsOrder-from_then feeds nodes steps same turn)
  order_from zero steps (n ∷ rest) few same turn = absurd (omega (arith, few))
  order_from (suc k) steps (n ∷ rest) few same turn = next (order_from k) (position ready left) refl
    where
      left : List Node
      left = n ∷ rest

      ready : Node → Bool
      ready m = not (is_fed feeds left m)

      next :
          ((more fewer : List Node)
          → length fewer ≤ k
          → IsPermutation nodes (more ++ fewer)
          → InTurnThen feeds more fewer
          → HasOrder)
          → (at : Option ℕ)
          → position ready left ≡ at
          → HasOrder
      next others None none =
          let cycle =
          has_cycle-from_cycle feeds nodes
          (cycle_from_stuck feeds nodes steps left same
          (λ m i. not-false (is_fed feeds left m) (position-None ready left none m i)) refl)
          in
          absurd (cc)
      next others (Some i) at =
          let found = position-Some ready left i n at in
          let m = get_or left i n in
          let there : m ≡ get_or left i m = get_or_default left i n m found.0 in
          others (steps ++ m ∷ []) (remove left i)
          (omega (arith, few, length-remove left i found.0))
          (IsPermutation-more nodes steps left i m found.0 there same)
          (InTurnThen-next feeds steps left i m found.0 there
          (not-true (is_fed feeds left m) found.1) turn)

  pub an_order : HasOrder
  an_order = order_from (length nodes) [] nodes (omega arith) (IsPermutation-refl nodes) tt
