use Rattle.std.proofs.Common.{◌-◌, ◌≡◌, ◌<◌, ◌≤◌, ◌+◌}
use Rattle.pixel_pool.specs.Classes.{class_size}
use Rattle.pixel_pool.proofs.classes.class_of.Given as goal

abbrev pub invariant-loop-class : goal.invariant-loop-class
invariant-loop-class l =
    record {
      known : l.class < 193;
      next : l.next ≡ class_size (l.class + 1);
      within : l.within ≡ class_size l.class;
      enough : l.within ≤ l.capacity;
    }

abbrev pub decreases-loop-class : goal.decreases-loop-class
decreases-loop-class l = 193 - l.class
