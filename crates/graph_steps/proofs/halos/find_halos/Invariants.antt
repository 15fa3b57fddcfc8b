use Rattle.std.proofs.Common.{◌≡◌, ◌-◌, All, length, drop, map}
use Rattle.graph_steps.proofs.Common.{AreEnough}
use Rattle.graph_steps.specs.Halos.{AreNeeded, Cover, HasOnly, NamesBelow, without_halo}
use Rattle.graph_steps.proofs.halos.find_halos.Given as goal

abbrev pub invariant-loop-k : goal.invariant-loop-k
invariant-loop-k l = record {
  enough : AreEnough l.high (drop (length l.tasks - l.k) l.tasks);
  needed : AreNeeded l.high (drop (length l.tasks - l.k) l.tasks);
  cover : Cover l.high (drop (length l.tasks - l.k) l.tasks) l.needs;
  only : HasOnly l.high (drop (length l.tasks - l.k) l.tasks) l.needs;
  names : All (NamesBelow (length l.fn.needs)) l.tasks;
  same : map without_halo l.tasks ≡ map without_halo l.fn.tasks;
}
