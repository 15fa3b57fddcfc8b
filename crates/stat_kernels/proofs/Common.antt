-- The names that several proofs cite, passed on from one place. Declares nothing.
pub use Rattle.image_core.specs.Bands.{all_rows}
pub use Rattle.image_core.specs.declared.band.Band.{Band}
pub use Rattle.lane_rows.specs.Running.{sum_below, sums_below}
pub use Rattle.lane_rows.specs.Tallies.{count_at, count_in_all}
pub use Rattle.stat_kernels.specs.Counts.{bin_sums}
pub use Rattle.stat_kernels.specs.Extreme.{
  added_extremes,
  extreme_among,
  extremes_of,
  found_in,
  merge_found,
  shift_found,
}
pub use Rattle.stat_kernels.specs.Part.{band_of, columns_in, valid_in, valid_run}
pub use Rattle.stat_kernels.specs.Sums.{
  AreRowsOf,
  IsRowAbove,
  last_row,
  row_sums,
  row_total,
  sum_on,
  sums_row,
}
pub use Rattle.stat_kernels.specs.declared.extreme.Found.{Found}
pub use Rattle.std.proofs.lemmas.Bool.{cases_Bool, cases_eq, cases_lt}
pub use Rattle.std.proofs.lemmas.Bool.Decides.{nat_tests}
pub use Rattle.std.proofs.lemmas.Int.{ints, to_z-of_z}
pub use Rattle.std.proofs.lemmas.List.{
  drop-map,
  get_or-map,
  get_or-replicate,
  get_or_past,
  length-map,
  length-replicate,
  map-append,
  take-map,
}
pub use Rattle.std.proofs.lemmas.List.Elements.{All-cons, All-head, All-nil, All-tail}
pub use Rattle.std.proofs.lemmas.List.FromFn.{
  fill_by_all,
  get_or-map-range_with_len,
  length-map-range_with_len,
  take-map-range_with_len,
}
pub use Rattle.std.proofs.lemmas.List.Sums.{
  count_by-le-length,
  sum_by-append,
  sum_by-cons,
  sum_by_more,
}
pub use Rattle.std.proofs.lemmas.Simd.{length-chunk, map-map}
pub use Rattle.std.specs.Int.{int_max, int_min}
pub use Rattle.std.specs.List.{All, count_by, flat_map, fold, range_with_len, sum, sum_by}
pub use Rattle.std.specs.Ordering.{int_eq}
pub use Rattle.vx_base.proofs.PictureLaws.{side}
pub use Rattle.vx_base.proofs.RectangleLaws.{rectangle_ordered}
pub use Rattle.vx_base.proofs.TableLaws.{
  band-more,
  get_or-run,
  length-range,
  length-run,
  range-append,
  row_fits,
  run-same,
}
pub use Rattle.vx_base.proofs.ZeroLaws.{map-replicate}
pub use Rattle.vx_base.specs.Description.{Description}
pub use Rattle.vx_base.specs.Image.{ImageValue, IsImage, band, pixel_at, run, zero_outside}
pub use Rattle.vx_base.specs.Rectangle.{Rectangle, has_pixel}
pub use Rattle.vx_base.specs.Statistics.{
  BinsValue,
  best_of,
  bin_of,
  count_of,
  extremes,
  first_of,
  histogram,
  is_bin,
  rectangle_pixels,
  row_pixels,
  samples_in,
  sum_to,
  tallies,
  valid_samples,
}
pub use Rattle.vx_base.specs.declared.extremes.Extremes.{Extremes}
