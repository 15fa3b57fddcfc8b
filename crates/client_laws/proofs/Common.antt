-- The names that several proofs cite, passed on from one place. Declares nothing.
pub use Rattle.client_model.proofs.HoldLaws.{OperandsStand, is_taken, kinds_taken, stands_parts}
pub use Rattle.client_model.proofs.NamedLaws.{held_kind}
pub use Rattle.client_model.proofs.NodeStepLaws.{CanRunOn}
pub use Rattle.client_model.proofs.StateLaws.{Leaves}
pub use Rattle.client_model.specs.Limits.{LimitsValue}
pub use Rattle.client_model.specs.Answer.{answer_to, reply_and_state, outcome_of}
pub use Rattle.client_model.specs.Context.{State}
pub use Rattle.client_model.specs.Graphs.{graph_named, graph_verdict, process_found}
pub use Rattle.client_model.specs.Immediate.{operand_in}
pub use Rattle.client_model.specs.Operands.{is_kind, stands_for}
pub use Rattle.client_model.specs.Refusal.{Outcome, refusal_code, reply_unless}
pub use Rattle.client_model.specs.Request.{IsRequest}
pub use Rattle.client_model.specs.States.{
  KeepsLimits,
  changes_nodes,
  kind_held,
  holds_operand,
  state_after,
}
pub use Rattle.client_model.specs.declared.refusal.Refusal.{Refusal}
pub use Rattle.client_model.specs.declared.refusal.Refusal.TheVariants.{Rejected}
pub use Rattle.client_model.specs.declared.reply.Reply.TheVariants.{Empty, Refused}
pub use Rattle.client_model.specs.declared.request.Request.{Request}
pub use Rattle.client_model.specs.declared.request.Request.TheVariants.{
  AddNode,
  Immediate,
  ProcessGraph,
  ReleaseContext,
  VerifyGraph,
  WriteImagePgm,
}
pub use Rattle.graph_run.proofs.BegunLaws.{labels-begun}
pub use Rattle.graph_run.proofs.FoundLemmas.{of_operands}
pub use Rattle.graph_run.proofs.LinkLaws.{All-from_In, In-from_All}
pub use Rattle.graph_run.proofs.OperandLaws.{kind-operand, no_delay, no_fault}
pub use Rattle.graph_run.proofs.TurnLaws.{each_alone}
pub use Rattle.graph_run.proofs.VerifiedLemmas.{named_by_input, named_by_output, pairs_of}
pub use Rattle.graph_run.specs.Graph.{
  objects_at_end,
  is_virtual_object,
  rounds_of_nodes,
  run_of_graph,
}
pub use Rattle.graph_run.specs.Operands.{CellsStand, IsReady, StandsFor, names_cell, operand_held}
pub use Rattle.graph_run.specs.Solution.{label_of}
pub use Rattle.graph_verify.proofs.CycleLemmas.{has_cycle-from_cycle}
pub use Rattle.graph_verify.proofs.MemberLemmas.{
  AllIn-permutation_back,
  In-append,
  In-left,
  In-right,
}
pub use Rattle.graph_verify.proofs.VerdictLemmas.{CanRun, can_run}
pub use Rattle.graph_verify.specs.Cycle.{has_cycle}
pub use Rattle.graph_verify.specs.Links.{feeds, is_written, reads, writes}
pub use Rattle.graph_verify.specs.Members.{AllIn, In}
pub use Rattle.graph_verify.specs.Operand.{
  is_image,
  is_virtual,
  operand_format,
  operand_kind,
  operand_of,
  operands_of,
  resolved_bytes,
}
pub use Rattle.graph_verify.specs.PartialDescriptions.{
  as_known,
  operand_partial_desc,
  partial_descs,
  resolved_operand,
  written_partial_desc,
}
pub use Rattle.graph_verify.specs.Rounds.{rounds}
pub use Rattle.graph_verify.specs.Verdict.{
  adds_to_virtual,
  first_fault,
  has_unwritten_input,
  is_unwritten_image,
  node_fault,
  reads_unwritten,
  verdict,
  virtual_outputs,
  work_bytes,
}
pub use Rattle.graph_verify.specs.declared.operand.Operand.{Operand}
pub use Rattle.graph_verify.specs.declared.operand.Operand.TheVariants.{Missing}
pub use Rattle.graph_verify.specs.declared.verified.Verified.{Verified}
pub use Rattle.object_table.proofs.HeldLemmas.{named_has, names_of}
pub use Rattle.object_table.specs.Ageing.{aged_under}
pub use Rattle.object_table.specs.Context.{Context, with_objects}
pub use Rattle.object_table.specs.Delay.{in_slot}
pub use Rattle.object_table.specs.NamedObject.{NamedObject, object_at, object_held}
pub use Rattle.object_table.specs.Uses.{nodes_in}
pub use Rattle.std.proofs.Math.Path.{fun_ext}
pub use Rattle.std.proofs.lemmas.Bool.{not-false, or_right}
pub use Rattle.std.proofs.lemmas.List.Elements.{All-head, All-tail, All-weaker}
pub use Rattle.std.specs.List.{filter, flat_map, list_any}
pub use Rattle.std.specs.List.Sorted.{IsPermutation, IsStrictlyIncreasing}
pub use Rattle.std.specs.Option.{option_and_then, option_map, option_or}
pub use Rattle.vx_base.specs.Reference.{Reference, reference_to}
pub use Rattle.vx_base.specs.Function.{parameters}
pub use Rattle.vx_base.specs.Graph.{GraphValue, nodes_of}
pub use Rattle.vx_base.specs.Node.{optional_cells, inputs, operands, outputs}
pub use Rattle.vx_base.specs.Object.{GraphObject, IsObject, ObjectValue, object_kind}
pub use Rattle.vx_base.specs.PartialDescription.{PartialDescription}
pub use Rattle.vx_base.specs.Outputs.{written_from}
pub use Rattle.vx_base.specs.declared.kind.Kind.{Kind}
pub use Rattle.vx_base.specs.declared.node.Node.{Node}
