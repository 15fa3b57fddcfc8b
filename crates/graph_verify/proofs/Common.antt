-- The names that several proofs cite, passed on from one place. Declares nothing.
pub use Rattle.graph_verify.specs.Cycle.{HasCycle, has_cycle, is_empty, left_after, fed_nodes}
pub use Rattle.graph_verify.specs.ResolvedOutputs.{AreResolved, described_output, known_operands}
pub use Rattle.graph_verify.specs.Linked.{
  AreOperands,
  reads_unwritten_virtual,
  has_virtual_sum,
  linked_nodes,
}
pub use Rattle.graph_verify.specs.Links.{feeds, is_written, reads, writes}
pub use Rattle.graph_verify.specs.Members.{AllIn, In}
pub use Rattle.graph_verify.specs.Operand.{
  is_image,
  is_virtual,
  operand_format,
  operands_of,
  written_operands,
}
pub use Rattle.graph_verify.specs.Order.{InTurn, IsOrder}
pub use Rattle.graph_verify.specs.PartialDescriptions.{
  as_known,
  given_partial_desc,
  operand_partial_desc,
  partial_descs,
  resolved_operand,
  written_partial_desc,
}
pub use Rattle.graph_verify.specs.Rounds.{
  IsSolution,
  OneWriter,
  ReadsAlone,
  one_pass,
  round,
  rounds,
}
pub use Rattle.graph_verify.specs.Verdict.{
  first_fault,
  has_unwritten_input,
  is_unwritten_image,
  node_fault,
  reads_own_output,
  takes_first,
  takes_operands,
  two_writers,
  verdict,
  verdict_on,
  virtual_outputs,
  work_bytes,
  writes_twice,
}
pub use Rattle.graph_verify.specs.Waiting.{once_ordered}
pub use Rattle.graph_verify.specs.declared.known.ResolvedOutput.{ResolvedOutput}
pub use Rattle.graph_verify.specs.declared.linked.Linked.{Linked}
pub use Rattle.graph_verify.specs.declared.operand.Operand.{Operand}
pub use Rattle.graph_verify.specs.declared.operand.Operand.TheVariants.{Image, Virtual}
pub use Rattle.graph_verify.specs.declared.operand.Operands.{Operands}
pub use Rattle.graph_verify.specs.declared.verdict.Verdict.{Verdict}
pub use Rattle.graph_verify.specs.declared.verdict.Verdict.TheVariants.{
  InvalidFormat,
  InvalidLink,
  NoResources,
}
pub use Rattle.std.proofs.lemmas.Bool.{
  and_parts,
  cases_Bool,
  false_from_ne_true,
  not-false,
  not-true,
  or_parts,
}
pub use Rattle.std.proofs.lemmas.Bool.Decides.{nat_tests}
pub use Rattle.std.proofs.lemmas.Grind.{flat_map-append}
pub use Rattle.std.proofs.lemmas.Iterator.{YieldsList-from_slice}
pub use Rattle.std.proofs.lemmas.Iterator.Search.{any_from_yields_List}
pub use Rattle.std.proofs.lemmas.List.{length-map, map-append}
pub use Rattle.std.proofs.lemmas.List.Elements.{filter-append}
pub use Rattle.std.proofs.lemmas.List.Filters.{length-filter_both}
pub use Rattle.std.proofs.lemmas.List.Folds.{list_any-append}
pub use Rattle.std.proofs.lemmas.List.Sorted.{
  IsPermutation-map,
  IsPermutation-refl,
  IsPermutation-remove,
  length_permutation,
  sum_by-IsPermutation,
}
pub use Rattle.std.proofs.lemmas.List.Sums.{sum_by-append, sum_by-cons}
pub use Rattle.std.specs.List.{filter, filter_map, flat_map, list_all, list_any, remove}
pub use Rattle.std.specs.List.Sorted.{IsPermutation}
pub use Rattle.std.specs.Option.{option_and_then, option_map, option_or}
pub use Rattle.vx_base.specs.Reference.{Reference, same_reference}
pub use Rattle.vx_base.specs.Description.{Description, byte_count}
pub use Rattle.vx_base.specs.Formats.{takes_formats}
pub use Rattle.vx_base.specs.Graph.{can_add}
pub use Rattle.vx_base.specs.Node.{optional_cells, inputs, outputs}
pub use Rattle.vx_base.specs.PartialDescription.{PartialDescription, with_defaults, partial_desc_of}
pub use Rattle.vx_base.specs.declared.format.Format.{Format}
pub use Rattle.vx_base.specs.declared.function.Function.{Function}
pub use Rattle.vx_base.specs.declared.node.Node.{Node}
pub use Rattle.vx_base.specs.declared.numbered.Numbered.{Numbered}
pub use mathlib.Core.Path.{fun_ext}
