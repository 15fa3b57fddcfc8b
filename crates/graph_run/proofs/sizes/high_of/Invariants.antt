use Rattle.std.proofs.Common.{ℕ, ◌<◌, ◌≤◌, All, take}
use Rattle.graph_run.proofs.Common.{VirtualOutput, Reference, image_held}
use Rattle.graph_run.proofs.sizes.high_of.Given as goal

abbrev pub invariant-loop-cell : goal.invariant-loop-cell
invariant-loop-cell l =
    record {
      some : 0 < l.high;
      virtuals : All (λ (o : VirtualOutput). o.desc.height ≤ l.high) l.images;
      least : (high : ℕ)
          → 0 < high
          → All (λ (o : VirtualOutput). o.desc.height ≤ high) l.images
          → All (λ (c : Reference). (image_held l.table.objects c).height ≤ high) l.clients
          → l.high ≤ high;
      clients :
          All (λ (c : Reference). (image_held l.table.objects c).height ≤ l.high)
          (take l.cell-index l.clients);
    }
