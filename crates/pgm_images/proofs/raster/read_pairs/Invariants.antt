use Rattle.std.proofs.Common.{◌-◌, length, map, take}
use Rattle.pgm_images.proofs.Common.{take_count, take_long_sample, nothing_left, LeftToFill}
use Rattle.pgm_images.proofs.raster.read_pairs.Given as goal

abbrev pub invariant-loop-index : goal.invariant-loop-index
invariant-loop-index g l =
    LeftToFill take_long_sample nothing_left l.maxval l.above
    (map g.T.Number.value (take l.index l.samples)) (length l.samples - l.index) l.rest
    (take_count take_long_sample nothing_left (length l.fn.samples) l.bytes)
