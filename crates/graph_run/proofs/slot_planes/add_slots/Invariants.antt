use Rattle.std.proofs.Common.{◌≡◌, ◌+◌, ◌-◌, ◌≤◌, drop, length, map, take}
use Rattle.graph_run.specs.Blocks.{block_size, lent_size}
use Rattle.graph_steps.specs.Steps.{capacities}
use Rattle.std.specs.Prelude.{vec_capacity}
use Rattle.graph_run.proofs.slot_planes.add_slots.Given as goal

abbrev pub invariant-loop-k : goal.invariant-loop-k
invariant-loop-k l =
    record {
      room : length l.planes.items + (length l.blocks - l.k) ≤ vec_capacity l.planes;
      capacity : vec_capacity l.planes ≡ vec_capacity l.fn.planes;
      sizes : capacities l.planes.items ≡ map block_size (take l.k l.fn.blocks);
      rest : drop l.k l.blocks ≡ drop l.k l.fn.blocks;
      lent_sizes : map lent_size l.blocks ≡ map lent_size l.fn.blocks;
    }
