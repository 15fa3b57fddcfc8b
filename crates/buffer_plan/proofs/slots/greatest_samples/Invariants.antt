use Rattle.std.proofs.Common.{◌≡◌, ℕ, length, take, get_or}
use Rattle.buffer_plan.proofs.Common.{slot_capacity}
use Rattle.buffer_plan.proofs.slots.greatest_samples.Given as goal

abbrev pub invariant-loop-placed : goal.invariant-loop-placed
invariant-loop-placed l = record {
  count : length l.samples.items ≡ l.count;
  greatest : (k : ℕ) → get_or l.samples.items k 0 ≡ slot_capacity (take l.placed-index l.placed) k;
}
