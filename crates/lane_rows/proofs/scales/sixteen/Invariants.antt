use Rattle.std.proofs.Common.{ℕ, pos, ◌<◌, get_or, w32, FitsSigned}
use Rattle.lane_rows.proofs.scales.sixteen.Given as goal

abbrev pub invariant-loop-number : goal.invariant-loop-number
invariant-loop-number l = (j : ℕ) → j < l.number-index → FitsSigned w32 (get_or l.row j (pos 0))
