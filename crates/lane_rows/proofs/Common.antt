-- Names that several proofs use. Declares nothing.
pub use Rattle.lane_rows.specs.MatrixRows.{matrix_sum}
pub use Rattle.lane_rows.specs.Pairs.{
  IsNear,
  IsPairTable,
  alternation,
  first_of_pair,
  line_of,
  pair_at,
  row_sum,
  second_of_pair,
  sum_of_rows,
}
pub use Rattle.lane_rows.specs.Quarters.{swap_quarters}
pub use Rattle.lane_rows.specs.Running.{sum_below, sums_below}
pub use Rattle.lane_rows.specs.Tallies.{count_at, count_in_all}
pub use Rattle.lane_rows.specs.declared.matrix_rows.MatrixRows.{MatrixRows}
pub use Rattle.std.proofs.Math.Nat.{div-eq_of_lt, mod-eq_of_lt, pow-le-pow_right}
pub use Rattle.std.proofs.Math.Seq.{take-add}
pub use Rattle.std.proofs.lemmas.Bool.{cases_Bool, cases_eq, cases_lt}
pub use Rattle.std.proofs.lemmas.Bool.Decides.{nat_tests}
pub use Rattle.std.proofs.lemmas.Grind.{common_steps}
pub use Rattle.std.proofs.lemmas.Int.{
  clamps,
  fits_signed_from_abs,
  int_wrap_fits,
  ints,
  to_z-of_z,
  to_z_pos,
}
pub use Rattle.std.proofs.lemmas.List.{drop-map, get_or-map, length-map, map-append, take-map}
pub use Rattle.std.proofs.lemmas.List.Elements.{All-cons, All-head, All-nil, All-tail}
pub use Rattle.std.proofs.lemmas.List.Sums.{
  count_by-le-length,
  sum_by-append,
  sum_by-cons,
  sum_by_more,
}
pub use Rattle.std.proofs.lemmas.Nat.{and_mask}
pub use Rattle.std.proofs.lemmas.Simd.{
  Each1-all,
  Each1-chunk,
  Each1-from_get_or,
  length-chunk,
  length-zip2,
  map-map,
  put_chunk_whole,
}
pub use Rattle.std.proofs.lemmas.Slice.{take-put_mid}
pub use Rattle.std.specs.Int.{int_div_euclid, int_max, int_min}
pub use Rattle.std.specs.Int.Signed.{shr_z}
pub use Rattle.std.specs.List.{All, fold, range_with_len, sum}
pub use Rattle.std.specs.Ordering.{int_eq}
pub use Rattle.std.specs.Simd.Lanes.{Each1, chunk, digits_l, number_l, pick_l, sel_l, zip2}
pub use Rattle.vx_base.proofs.TableLaws.{range-append, row_fits, run-append, run-same, run_part}
pub use Rattle.vx_base.proofs.WindowLaws.{run_shifted}
pub use Rattle.vx_base.specs.Image.{run}
pub use Rattle.vx_base.specs.Pixelwise.{product}
pub use Rattle.vx_base.specs.Sample.{IsSample, clamp, narrow}
pub use Rattle.vx_base.specs.Statistics.{best_of, count_of}
pub use Rattle.vx_base.specs.declared.format.Format.TheVariants.{S16, U8}
pub use Rattle.vx_base.specs.declared.policy.Policy.{Policy}
pub use Rattle.vx_base.specs.declared.policy.Policy.TheVariants.{Saturate, Wrap}
pub use borrow.Rule.Slice.PartMut.{put_mid}
pub use lib.Count.{ones}
pub use lib.Lanes.{top}
pub use mir.Syntax.{Width}
