use Rattle.std.proofs.Common.{◌≡◌, ◌+◌, ◌-◌, ◌≤◌, ◌++◌, length, map, vec_capacity}
use Rattle.graph_run.proofs.Common.{range_with_len, plan_view, slot_index}
use Rattle.graph_run.specs.Blocks.{band_plan}
use Rattle.graph_run.proofs.blocks.add_capacities.Given as goal

-- the capacities so far stand behind those that were there
abbrev pub invariant-loop-k : goal.invariant-loop-k
invariant-loop-k l =
    let p = band_plan l.size l.tasks (plan_view l.plan) in
    record {
      room : length l.capacities.items + (l.count - l._k) ≤ vec_capacity l.capacities;
      capacities :
          l.capacities.items
          ≡ l.fn.capacities.items
          ++ map (λ j. (l.format, p.slot_samples l.format j)) (range_with_len 0 l._k);
      count : length l.capacities.items ≡ slot_index (plan_view l.plan) l.format 0 + l._k;
    }
