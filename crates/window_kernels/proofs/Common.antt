-- The names that several proofs cite, passed on from one place. Declares nothing.
pub use Rattle.image_core.proofs.BandLaws.{written_for}
pub use Rattle.lane_rows.specs.Pairs.{
  IsNear,
  IsPairTable,
  alternation,
  first_of_pair,
  line_of,
  pair_at,
  row_sum,
  second_of_pair,
  sum_of_first,
  sum_of_rows,
}
pub use Rattle.std.proofs.Math.ListN.{get_or-map}
pub use Rattle.std.proofs.lemmas.Int.{ints, to_z-of_z}
pub use Rattle.std.proofs.lemmas.List.{map-append}
pub use Rattle.std.proofs.lemmas.Simd.{Each1-get_or, get_or-chunk}
pub use Rattle.std.proofs.lemmas.Slice.{take-put_mid}
pub use Rattle.std.specs.List.{range_with_len}
pub use Rattle.std.specs.Simd.Lanes.{Each1, chunk}
pub use Rattle.vx_base.proofs.TableLaws.{get_or-run, row_fits, run-append, run-same}
pub use Rattle.vx_base.proofs.WindowLaws.{run_shifted}
pub use Rattle.vx_base.specs.Image.{ImageValue, run, table}
pub use Rattle.vx_base.specs.Sample.{clamp}
pub use Rattle.vx_base.specs.Window.{
  convolution_result,
  gradient_x,
  gradient_y,
  median,
  nine_around,
  sample_or_border,
  window_valid,
}
pub use Rattle.vx_base.specs.declared.border.Border.{Border}
pub use Rattle.vx_base.specs.declared.format.Format.TheVariants.{S16, U8}
pub use Rattle.window_kernels.specs.Rotated.{rotated_coefficient, rotated_pair}
pub use borrow.Rule.Slice.PartMut.{put_mid}
