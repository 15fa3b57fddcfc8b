use Rattle.std.proofs.Common.{◌≡◌, ℕ, length, drop}
use Rattle.buffer_plan.proofs.Common.{is_node_operand}
use Rattle.buffer_plan.proofs.lives.last_use.Given as goal

abbrev pub invariant-loop-node : goal.invariant-loop-node
invariant-loop-node l =
    (j : ℕ) → is_node_operand (drop j l.steps) l.cell ≡ is_node_operand (drop j l.rest) l.cell

abbrev pub decreases-loop-node : goal.decreases-loop-node
decreases-loop-node l = length l.rest
