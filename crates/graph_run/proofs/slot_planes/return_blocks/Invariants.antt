use Rattle.std.proofs.Common.{◌≡◌, ◌≤◌, ℕ, drop, length, map, take}
use Rattle.graph_run.specs.Blocks.{block_size, lent_size}
use Rattle.graph_steps.specs.Planes.{plane}
use Rattle.graph_steps.specs.Steps.{capacities}
use Rattle.graph_run.proofs.slot_planes.return_blocks.Given as goal

abbrev pub invariant-loop-k : goal.invariant-loop-k
invariant-loop-k l =
    record {
      back : map block_size (take l.k l.blocks) ≡ take l.k (capacities l.fn.planes);
      lent_sizes : map lent_size l.blocks ≡ map lent_size l.fn.blocks;
      planes : (k : ℕ) → l.k ≤ k → plane l.planes k ≡ plane l.fn.planes k;
      others : drop (length l.fn.blocks) l.planes ≡ drop (length l.fn.blocks) l.fn.planes;
    }
