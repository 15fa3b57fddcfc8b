use Rattle.std.proofs.Common.{ℕ, ◌<◌, ◌≤◌, All, take}
use Rattle.graph_run.proofs.Common.{VirtualOutput}
use Rattle.graph_run.proofs.sizes.highest_virtual.Given as goal

abbrev pub invariant-loop-image : goal.invariant-loop-image
invariant-loop-image l = record {
  some : 0 < l.high;
  least : (high : ℕ)
      → 0 < high
      → All (λ (o : VirtualOutput). o.desc.height ≤ high) l.images
      → l.high ≤ high;
  each : All (λ (o : VirtualOutput). o.desc.height ≤ l.high) (take l.image-index l.images);
}
