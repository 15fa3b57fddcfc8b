-- The names that several proofs cite, passed on from one place. Declares nothing.
pub use Rattle.graph_steps.specs.Planes.{
  IsReadable,
  IsWhole,
  PlaneValue,
  TakesRows,
  block_image,
  block_images,
  with_description,
  no_plane,
  plane,
  plane_image,
  read_images,
  rows_of_block,
  with_halo,
  with_read_rows,
  with_rows,
  without_block,
  written_among,
}
pub use Rattle.graph_steps.specs.Program.{
  AreEnough,
  HaveOneWriter,
  HaveRoom,
  HoldsRows,
  IsClient,
  IsClients,
  IsNeeded,
  IsProgram,
  IsStepOf,
  IsUnwritten,
  NamesPlanes,
  Reduces,
  RunsInTurn,
  after_task,
  after_tasks,
  band_rows,
  images_after,
  images_at_end,
  with_image,
}
pub use Rattle.graph_steps.specs.Runs.{CanDo, CanReduceBand, CanRunBand}
pub use Rattle.graph_steps.specs.Steps.{
  CanMake,
  CanStep,
  CanWrite,
  Covers,
  ReadsPlane,
  Suits,
  after_step,
  output_plane,
  blank_image,
  capacities,
  capacity,
  held_image,
  image_from_inputs,
  is_integral,
  kernel_image,
  output_desc,
  own_by,
  reads_output,
  rows_image,
  scan_image,
  second_in,
  step_image,
  step_radius,
  sums_above,
  whole_image,
}
pub use Rattle.graph_steps.specs.Tallies.{
  AreNew,
  AreTallied,
  CanAdd,
  CanReduce,
  IsBounded,
  IsNew,
  ReduceInTurn,
  TakesFormat,
  after_reduction,
  all_tallies_after,
  tallies_after,
  tally_at,
  tally_of,
  with_rows_added,
  with_rows_counted,
}
pub use Rattle.graph_steps.specs.contracts.plane.Plane.{the_view}
pub use Rattle.graph_steps.specs.declared.step.Reduction.{Reduction}
pub use Rattle.graph_steps.specs.declared.step.SecondSource.{SecondSource}
pub use Rattle.graph_steps.specs.declared.step.SecondSource.TheVariants.{Nothing, Plane, Table}
pub use Rattle.graph_steps.specs.declared.step.Step.{Step}
pub use Rattle.graph_steps.specs.declared.step.Task.{Task}
pub use Rattle.graph_steps.specs.declared.step.Task.TheVariants.{Reduce, Write}
pub use Rattle.graph_steps.specs.declared.tally.Tally.{Tally}
pub use Rattle.image_core.proofs.HeldRows.{all_held, at_held, at_held_in, held_in_is}
pub use Rattle.image_core.specs.Bands.{
  IsInRows,
  all_rows,
  has_row,
  image_over_rows,
  rows_in,
  zero_outside_rows,
}
pub use Rattle.image_core.specs.Second.{second_object}
pub use Rattle.image_core.specs.declared.band.Band.{Band}
pub use Rattle.image_core.specs.declared.second.SecondInput.{SecondInput}
pub use Rattle.node_rows.specs.Radius.{matrix_in, window_radius}
pub use Rattle.node_rows.specs.Rows.{AgreeInRows, AreAlike, SecondsAgree}
pub use Rattle.stat_kernels.specs.Counts.{bin_sums}
pub use Rattle.stat_kernels.specs.Part.{band_of, valid_in}
pub use Rattle.stat_kernels.specs.Sums.{last_row, row_sums, sum_on}
pub use Rattle.std.proofs.Math.ListN.{get_or-map}
pub use Rattle.std.proofs.lemmas.Bool.{
  and_parts,
  cases_Bool,
  cases_lt,
  eqb-false,
  eqb-true,
  ltb-false,
  ltb-true,
}
pub use Rattle.std.proofs.lemmas.Bool.Decides.{nat_tests}
pub use Rattle.std.proofs.lemmas.List.{
  drop-map,
  drop_all,
  get_or-append_right,
  get_or-replicate,
  get_or-set_other,
  get_or-set_same,
  get_or_append_left,
  get_or_default,
  get_or_past,
  length-map,
  length-replicate,
  length-set,
  map-append,
  map-set,
  set-get_or,
  set-set,
  take-map,
  take-replicate,
}
pub use Rattle.std.specs.Option.{option_and_then}
pub use Rattle.std.specs.Prelude.{int_lt, slice_index_or, ◌⊎◌}
pub use Rattle.vx_base.proofs.ImageLaws.{
  at-made,
  at-made_outside,
  made_image,
  new_image_is,
  same_parts,
  samples_are_band,
}
pub use Rattle.vx_base.proofs.TableLaws.{band-same, length-band, length-table, run-same}
pub use Rattle.vx_base.specs.Description.{Description, same_size}
pub use Rattle.vx_base.specs.Formats.{takes_formats}
pub use Rattle.vx_base.specs.Function.{accumulates, parameters}
pub use Rattle.vx_base.specs.Image.{
  ImageValue,
  IsImage,
  band,
  description_of,
  image_from,
  image_over,
  pixel_at,
  zero_outside,
}
pub use Rattle.vx_base.specs.Object.{
  DistributionValue,
  ImageObject,
  IsObject,
  ObjectValue,
  no_extremes,
  object_format,
  object_kind,
}
pub use Rattle.vx_base.specs.Outputs.{node_image, second_or_output}
pub use Rattle.vx_base.specs.Picture.{samples_format, values}
pub use Rattle.vx_base.specs.Pixelwise.{formula_of_two, from_two}
pub use Rattle.vx_base.specs.Rectangle.{
  IsCanonical,
  IsWithin,
  Rectangle,
  empty_rectangle,
  has_pixel,
  meet_of,
}
pub use Rattle.vx_base.specs.Statistics.{
  extremes,
  histogram,
  rectangle_pixels,
  samples_in,
  sum_to,
  sums_in,
  tallies,
  valid_samples,
}
pub use Rattle.vx_base.specs.declared.format.Format.{Format}
pub use Rattle.vx_base.specs.declared.format.Format.TheVariants.{S16, U32, U8}
pub use Rattle.vx_base.specs.declared.function.Function.{Function}
pub use Rattle.vx_base.specs.declared.node.Node.{Node}
pub use Rattle.vx_base.specs.declared.output.Output.{Output}
pub use borrow.Rule.Slice.PartMut.{put_mid}
