use Rattle.std.proofs.Common.{◌-◌, ◌≡◌, ◌<◌}
use Rattle.pixel_pool.specs.Classes.{class_size}
use Rattle.pixel_pool.proofs.classes.capacity_for.Given as goal

abbrev pub invariant-loop-class : goal.invariant-loop-class
invariant-loop-class l =
    record {
      capacity : l.capacity ≡ class_size l.class;
      none : 0 < l.class → class_size (l.class - 1) < l.count;
    }
