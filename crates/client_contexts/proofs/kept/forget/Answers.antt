use Rattle.std.proofs.Common.{ℕ, List, inl, inr, arith}
use Rattle.client_contexts.proofs.Common.{KeptGraph}
use Rattle.client_contexts.proofs.ForgetLemmas.{apart, others_left}
use Rattle.client_contexts.proofs.kept.forget.Goals as goal

pub returns-in-AddNode-clause-left : goal.returns-in-AddNode-clause-left
returns-in-AddNode-clause-left c =
    let entries : List (ℕ × KeptGraph) = c.remove-forgotten.new.self.entries in
    let left = others_left c.in-AddNode.graph entries c.remove-forgotten.ensures.updates.1 in
    elim c.in-AddNode.is [
      | inl added ↦ rw added.1 left
      | inr other ↦ elim other [
        | inl removed ↦ rw removed.1 left
        | inr released ↦ rw released left
      ]
    ]

pub returns-in-AddNode-clause-stay : goal.returns-in-AddNode-clause-stay
returns-in-AddNode-clause-stay c = grind (arith, apart, c.remove-forgotten.ensures.updates.2)
