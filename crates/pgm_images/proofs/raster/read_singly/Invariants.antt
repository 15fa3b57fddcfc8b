use Rattle.std.proofs.Common.{◌≡◌, ◌||◌, Bool, List, ℕ, Option, length}
use Rattle.pgm_images.proofs.Common.{PlainUpTo}
use Rattle.pgm_images.proofs.raster.read_singly.Given as goal

abbrev pub invariant-loop-index : goal.invariant-loop-index
invariant-loop-index g l =
    (length l.samples ≡ length l.fn.samples)
    ×
    ((above : Bool) (whole : Option (List ℕ))
    → PlainUpTo g.T.Number.value l.maxval l.from above l.fn.samples l.text whole
    → PlainUpTo g.T.Number.value l.maxval l.index (above || l.high) l.samples l.rest whole)
