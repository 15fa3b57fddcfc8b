use Rattle.std.proofs.Common.{◌≡◌, ◌+◌, length}
use Rattle.graph_run.proofs.Common.{Format, lent_of, blocks_of}
use Rattle.graph_run.specs.Blocks.{blocks_of_format}
use Rattle.graph_run.proofs.blocks.give_back.Given as goal

-- the blocks that are no longer in the list are given back
abbrev pub invariant-loop-block : goal.invariant-loop-block
invariant-loop-block l =
    record {
      gives : (format : Format)
          → lent_of l.pool format + blocks_of_format l.fn.blocks.items format
          ≡ lent_of l.fn.pool format + blocks_of_format l.blocks.items format;
      blocks : (format : Format) → blocks_of l.pool format ≡ blocks_of l.fn.pool format;
    }

abbrev pub decreases-loop-block : goal.decreases-loop-block
decreases-loop-block l = length l.blocks.items
