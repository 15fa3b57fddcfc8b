use Rattle.std.proofs.Common.{◌≡◌, ◌-◌, ◌≤◌, length}
use Rattle.pgm_images.proofs.Common.{take_next, ends, take_count, PlainUpTo}
use Rattle.pgm_images.proofs.raster.read_plain.Given as goal

abbrev pub decreases-loop-index : goal.decreases-loop-index
decreases-loop-index g l = length l.initial.samples - l.index

abbrev pub invariant-loop-index : goal.invariant-loop-index
invariant-loop-index g l =
    PlainUpTo g.T.Number.value l.maxval l.index l.above l.samples l.rest
    (take_count take_next ends (length l.fn.samples) l.text)
    × (length l.samples ≡ length l.fn.samples) × (l.index ≤ length l.samples)
