use Rattle.std.proofs.Common.{◌≡◌, ℕ, ◌<◌, ◌≤◌, IfSome, IfNone, slice_index}
use Rattle.pixel_pool.specs.Free.{HasFree}
use Rattle.pixel_pool.specs.Shelf.{lengths}
use Rattle.pixel_pool.proofs.stacks.largest.Given as goal

abbrev pub invariant-loop-class : goal.invariant-loop-class
invariant-loop-class l =
    record {
      free : IfSome l.found (HasFree (lengths l.stacks));
      greatest :
          IfSome l.found
          (λ class. (other : ℕ)
          → other < l.class
          → HasFree (lengths l.stacks) other
          → other ≤ class);
      none :
          IfNone l.found ((other : ℕ) → other < l.class → slice_index (lengths l.stacks) other ≡ 0);
    }
