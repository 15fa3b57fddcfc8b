-- Names that several proofs use. Declares nothing.
pub use Rattle.buffer_plan.specs.Lives.{is_node_operand}
pub use Rattle.buffer_plan.specs.Places.{plan_view}
pub use Rattle.buffer_plan.specs.Plan.{IsPlan, PlanView}
pub use Rattle.graph_run.specs.Graph.{
  named_at_start,
  object_at_start,
  objects_at_end,
  is_virtual_object,
  one_by_one,
  rounds_of_nodes,
  run_of_graph,
}
pub use Rattle.graph_run.specs.Lasting.{Lasts, lasting_part, lasting_named}
pub use Rattle.graph_run.specs.Operands.{
  CellsStand,
  HoldsOperand,
  IsReady,
  names_cell,
  operand_held,
}
pub use Rattle.graph_run.specs.Slots.{slot_index_of, planned_capacities, slot_index}
pub use Rattle.graph_run.specs.Solution.{Solves, WritesNo, form_held, form_of, kind_in, label_of}
pub use Rattle.graph_run.specs.Steps.{AreApart, Holds, RunsOn, RunsTo, TwoSlots, with_output_object}
pub use Rattle.graph_run.specs.Turns.{CanRunNow, HoldsKind}
pub use Rattle.graph_verify.proofs.LinkLemmas.{
  In-from_same,
  In-outputs,
  once_after,
  one_writer,
  same-from_In,
  same_cell-refl,
  same_cell-true,
  two_writers-permutation,
}
pub use Rattle.graph_verify.proofs.MemberLemmas.{
  AllIn-permutation,
  AllIn-permutation_back,
  Contains-from_In,
  In-append,
  In-at,
  In-filter,
  In-from_any,
  In-from_filter,
  In-from_flat_map,
  In-from_map,
  In-left,
  In-map,
  In-right,
  any-from_In,
  fails-from_In,
}
pub use Rattle.graph_verify.proofs.NodeVerdictLemmas.{runs_alone}
pub use Rattle.graph_verify.proofs.VerdictLemmas.{CanRun}
pub use Rattle.graph_verify.specs.Linked.{AreOperands, linked_nodes}
pub use Rattle.graph_verify.specs.Links.{feeds, has_twice, is_written, writes}
pub use Rattle.graph_verify.specs.Members.{AllIn, In}
pub use Rattle.graph_verify.specs.Operand.{
  are_of_one_size,
  is_image,
  is_virtual,
  operand_format,
  operand_kind,
  operand_of,
  operands_of,
}
pub use Rattle.graph_verify.specs.Order.{IsOrder}
pub use Rattle.graph_verify.specs.PartialDescriptions.{partial_descs, resolved_operand}
pub use Rattle.graph_verify.specs.Rounds.{OneWriter}
pub use Rattle.graph_verify.specs.Verdict.{
  node_fault,
  reads_own_output,
  two_writers,
  verdict,
  verdict_on,
  writes_twice,
}
pub use Rattle.graph_verify.specs.Verified.{IsVerified}
pub use Rattle.graph_verify.specs.declared.known.VirtualOutput.{VirtualOutput}
pub use Rattle.graph_verify.specs.declared.operand.Operand.{Operand}
pub use Rattle.graph_verify.specs.declared.operand.Operand.TheVariants.{Image, Missing}
pub use Rattle.graph_verify.specs.declared.operand.Operands.{Operands}
pub use Rattle.graph_verify.specs.declared.verified.Verified.{Verified}
pub use Rattle.image_core.specs.Fits.{HaveSameSize, SecondHasSize}
pub use Rattle.image_core.specs.Second.{second_object}
pub use Rattle.object_table.proofs.HeldLemmas.{
  All-from_map,
  HasObject,
  held_by_name,
  held_is,
  map-with_object,
  names_of,
  object_held-map,
}
pub use Rattle.object_table.proofs.SkeletonLaws.{map-determined}
pub use Rattle.object_table.proofs.SlotLemmas.{with_slot_elsewhere, with_slot_there}
pub use Rattle.object_table.specs.Context.{Context, with_objects}
pub use Rattle.object_table.specs.Delay.{in_slot, with_slot}
pub use Rattle.object_table.specs.NamedObject.{
  NamedObject,
  object_at,
  object_held,
  with_object,
  with_written,
}
pub use Rattle.object_table.specs.Object.{distribution_value, image_value}
pub use Rattle.object_table.specs.Skeleton.{skeleton}
pub use Rattle.object_table.specs.Table.{HoldsImage, cell_object, image_held}
pub use Rattle.pixel_pool.specs.Pool.{blocks_of, lent_of}
pub use Rattle.std.proofs.lemmas.Bool.{
  and_parts,
  cases_Bool,
  cases_lt,
  false_from_ne_true,
  or_cases,
  or_left,
  or_parts,
  or_right,
}
pub use Rattle.std.proofs.lemmas.Bool.Decides.{nat_tests}
pub use Rattle.std.proofs.lemmas.List.{get_or-map, length-map, map-append, take_more}
pub use Rattle.std.proofs.lemmas.List.Elements.{All-head, All-push, All-tail, All-weaker}
pub use Rattle.std.proofs.lemmas.List.Folds.{list_any-append}
pub use Rattle.std.proofs.lemmas.List.FromFn.{length-map-range_with_len}
pub use Rattle.std.proofs.lemmas.Option.{slice_get-get_or, slice_get-map}
pub use Rattle.std.specs.List.{AllPairs, flat_map, list_all, list_any, range_with_len}
pub use Rattle.std.specs.List.Sorted.{IsStrictlyIncreasing}
pub use Rattle.std.specs.Option.{option_or}
pub use Rattle.vx_base.proofs.NodeLaws.{accumulated_image_is, node_image_is}
pub use Rattle.vx_base.specs.Reference.{Reference, reference_to, same_reference, same_slot}
pub use Rattle.vx_base.specs.Description.{Description, IsDescription, same_size, sample_count}
pub use Rattle.vx_base.specs.Formats.{takes_formats}
pub use Rattle.vx_base.specs.Function.{accumulates, parameters}
pub use Rattle.vx_base.specs.Image.{ImageValue, IsImage, description_of, image_over, new_image}
pub use Rattle.vx_base.specs.Node.{
  IsNode,
  optional_cells,
  inputs,
  is_node,
  operands,
  outputs,
  second_kind,
}
pub use Rattle.vx_base.specs.Object.{
  DelayObject,
  DistributionObject,
  ExtremesObject,
  ImageObject,
  IsObject,
  ObjectValue,
  VirtualObject,
  object_format,
  object_kind,
}
pub use Rattle.vx_base.specs.Outputs.{
  second_or_output,
  node_image,
  node_output,
  written_by,
  written_from,
  written_in,
  written_to,
}
pub use Rattle.vx_base.specs.Picture.{samples_format, values}
pub use Rattle.vx_base.specs.Rectangle.{empty_rectangle}
pub use Rattle.vx_base.specs.Sample.{same_format}
pub use Rattle.vx_base.specs.Statistics.{BinsValue, histogram, valid_samples}
pub use Rattle.vx_base.specs.declared.format.Format.{Format}
pub use Rattle.vx_base.specs.declared.format.Format.TheVariants.{S16, U32, U8}
pub use Rattle.vx_base.specs.declared.function.Function.{Function}
pub use Rattle.vx_base.specs.declared.kind.Kind.{Kind}
pub use Rattle.vx_base.specs.declared.node.Node.{Node}
pub use Rattle.vx_base.specs.declared.numbered.Numbered.{Numbered}
pub use Rattle.vx_base.specs.declared.output.Output.{Output}
pub use Rattle.vx_base.specs.declared.output.Output.TheVariants.{First, Second}
pub use Rattle.vx_base.specs.declared.samples.Samples.{Samples}
pub use Rattle.vx_base.specs.declared.virtual_image.VirtualImage.{VirtualImage}
pub use mathlib.Core.Path.{fun_ext}
