use Rattle.std.proofs.Common.{◌≡◌, ◌+◌, ◌-◌, ◌≤◌, drop, length, map, take, vec_capacity}
use Rattle.graph_run.proofs.Common.{Format, lent_of, blocks_of}
use Rattle.graph_run.specs.Blocks.{blocks_of_format, block_size, capacity_count, lent_size}
use Rattle.graph_run.proofs.blocks.add_blocks.Given as goal

-- there is a block for each of the capacities so far, and room for the others
abbrev pub invariant-loop-k : goal.invariant-loop-k
invariant-loop-k l =
    record {
      room : length l.blocks.items + (length l.capacities - l.k) ≤ vec_capacity l.blocks;
      capacities : map block_size l.blocks.items ≡ take l.k l.capacities;
      lent_sizes : map lent_size l.blocks.items ≡ take l.k l.capacities;
      lends : (f : Format)
          → lent_of l.pool f ≡ lent_of l.fn.pool f + blocks_of_format l.blocks.items f;
      adds : (f : Format)
          → blocks_of l.pool f + capacity_count (drop l.k l.capacities) f ≤ blocks_of l.fn.pool
          f + capacity_count l.capacities f;
    }
