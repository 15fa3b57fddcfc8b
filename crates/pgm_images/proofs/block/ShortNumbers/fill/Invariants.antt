use Rattle.std.proofs.Common.{◌≡◌, ◌≤◌, ◌<◌, Bool, List, ℕ, Option, length, drop}
use Rattle.pgm_images.proofs.Common.{PlainUpTo}
use Rattle.pgm_images.proofs.BlockLemmas.{Walks}
use Rattle.pgm_images.proofs.block.ShortNumbers.fill.Given as goal

abbrev pub decreases-loop-left : goal.decreases-loop-left
decreases-loop-left g l = l.left

abbrev pub invariant-loop-left : goal.invariant-loop-left
invariant-loop-left g l =
    Walks l.self.bytes l.text l.left l.end
    × (l.end ≤ length l.text)
    × (l.left ≡ 0 → l.index < l.next)
    × (l.index ≤ l.next)
    × (l.next ≤ length l.samples)
    × (length l.samples ≡ length l.fn.samples)
    ×
    ((above : Bool) (whole : Option (List ℕ))
    → PlainUpTo g.T.Number.value l.maxval l.index above l.fn.samples l.text whole
    → PlainUpTo g.T.Number.value l.maxval l.next above l.samples (drop l.end l.text) whole)
