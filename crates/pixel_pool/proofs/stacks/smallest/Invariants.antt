use Rattle.std.proofs.Common.{◌≡◌, ℕ, ◌<◌, ◌≤◌}
use Rattle.pixel_pool.specs.Classes.{class_size}
use Rattle.pixel_pool.specs.Free.{HasFree}
use Rattle.pixel_pool.specs.Shelf.{lengths}
use Rattle.pixel_pool.proofs.stacks.smallest.Given as goal

abbrev pub invariant-loop-class : goal.invariant-loop-class
invariant-loop-class l =
    record {
      capacity : l.capacity ≡ class_size l.class;
      none : (other : ℕ)
          → other < l.class
          → HasFree (lengths l.stacks) other
          → l.count ≤ class_size other
          → ⊥;
    }
