use Rattle.stat_kernels.proofs.Common.{band_of, pixel_at, rectangle_pixels}
use Rattle.stat_kernels.proofs.BandLaws.{rows_at}
use Rattle.stat_kernels.proofs.MergeLaws.{MergesAs}
use Rattle.stat_kernels.proofs.extremes.add_min_max.Given as goal

abbrev pub invariant-loop-k : goal.invariant-loop-k
invariant-loop-k l =
    MergesAs (pixel_at l.image) l.down
    (rectangle_pixels (band_of (rows_at l.rows.start l.k) l.image.valid)) l.found
