-- Names that several proofs use. Declares nothing.
pub use Rattle.client_contexts.specs.Applies.{AppliesToKept}
pub use Rattle.client_contexts.specs.Blocks.{IsRuntime}
pub use Rattle.client_contexts.specs.Kept.{
  AreKept,
  IsKept,
  IsKeptWithin,
  KeepsVerified,
  ends_verification,
  forgotten_by,
  verified_in,
}
pub use Rattle.client_contexts.specs.Lookup.{IsFound, IsImageFor, IsImageOf, IsNamed, refusal_for}
pub use Rattle.client_contexts.specs.Steps.{MayComeTo, all_operands, first_class, client_result}
pub use Rattle.client_contexts.specs.World.{ClientContext, World}
pub use Rattle.client_contexts.specs.declared.fault.RequestFault.{RequestFault}
pub use Rattle.client_contexts.specs.declared.kept.KeptGraph.{KeptGraph}
pub use Rattle.client_model.proofs.HoldLaws.{OperandsStand}
pub use Rattle.client_model.proofs.OutcomeLaws.{KeepsBut}
pub use Rattle.client_model.proofs.StateLaws.{with_new_keeps}
pub use Rattle.client_model.specs.Limits.{LimitsValue}
pub use Rattle.client_model.specs.Answer.{reply_and_state}
pub use Rattle.client_model.specs.Graphs.{graph_named, graph_verdict}
pub use Rattle.client_model.specs.Images.{valid_refusal, write_image}
pub use Rattle.client_model.specs.Immediate.{immediate}
pub use Rattle.client_model.specs.Operands.{operands_refusal}
pub use Rattle.client_model.specs.Refusal.{Outcome, reply_unless}
pub use Rattle.client_model.specs.States.{KeepsLimits, holds_operand}
pub use Rattle.client_model.specs.declared.refusal.Refusal.{Refusal}
pub use Rattle.client_model.specs.declared.reply.Reply.{Reply}
pub use Rattle.client_model.specs.declared.reply.Reply.TheVariants.{Empty}
pub use Rattle.client_model.specs.declared.request.Request.{Request}
pub use Rattle.client_model.specs.declared.request.Request.TheVariants.{
  ProcessGraph,
  VerifyGraph,
  WriteImage,
}
pub use Rattle.graph_run.proofs.FoundLemmas.{OfOperands, of_operands}
pub use Rattle.graph_run.specs.Operands.{IsReady, operand_held}
pub use Rattle.graph_verify.specs.Operand.{is_image, is_virtual}
pub use Rattle.graph_verify.specs.Verdict.{verdict, verdict_on}
pub use Rattle.graph_verify.specs.Verified.{IsVerified}
pub use Rattle.graph_verify.specs.declared.operand.Operands.{Operands}
pub use Rattle.object_table.proofs.HeldLemmas.{names_of}
pub use Rattle.object_table.proofs.SlotLemmas.{graph_of_kind}
pub use Rattle.object_table.specs.Blocks.{KeepsBlocks, blocks_in}
pub use Rattle.object_table.specs.Context.{Context, object_named, with_graph, with_objects}
pub use Rattle.object_table.specs.Delay.{in_slot}
pub use Rattle.object_table.specs.NamedObject.{NamedObject, object_at, object_held, with_object}
pub use Rattle.object_table.specs.Object.{aged_object, graph_value, image_value}
pub use Rattle.object_table.specs.Table.{HoldsImage, IsUnder, graph_under, image_held, object_under}
pub use Rattle.object_table.specs.Uses.{nodes_in}
pub use Rattle.pgm_images.proofs.ReadingLemmas.{map_some}
pub use Rattle.std.proofs.lemmas.Bool.{cases_Bool}
pub use Rattle.std.proofs.lemmas.List.Elements.{
  All-append,
  All-cons,
  All-head,
  All-map,
  All-nil,
  All-tail,
  All-weaker,
}
pub use Rattle.std.proofs.lemmas.List.Folds.{list_any-append}
pub use Rattle.std.proofs.lemmas.List.Sums.{sum-map}
pub use Rattle.std.proofs.lemmas.Map.Lookups.{exact_unsigned}
pub use Rattle.std.proofs.lemmas.Map.Views.{All-map-remove_entry}
pub use Rattle.std.specs.BTreeMap.{insert_entry, is_at}
pub use Rattle.std.specs.List.{list_any}
pub use Rattle.std.specs.List.Sorted.{IsStrictlyIncreasing}
pub use Rattle.std.specs.Map.{lookup, remove_entry}
pub use Rattle.std.specs.Option.{option_and_then, option_map}
pub use Rattle.std.specs.Ordering.{nat_cmp}
pub use Rattle.vx_base.specs.Reference.{Reference, reference_to}
pub use Rattle.vx_base.specs.Description.{Description}
pub use Rattle.vx_base.specs.Function.{parameters}
pub use Rattle.vx_base.specs.Graph.{GraphValue, nodes_of, with_node}
pub use Rattle.vx_base.specs.Image.{ImageValue, description_of, image_over, new_image, with_valid}
pub use Rattle.vx_base.specs.Node.{IsNode, operands, second_kind, with_kind}
pub use Rattle.vx_base.specs.Object.{
  DelayObject,
  GraphObject,
  ImageObject,
  IsObject,
  ObjectValue,
  object_kind,
}
pub use Rattle.vx_base.specs.Rectangle.{Rectangle, whole_rectangle}
pub use Rattle.vx_base.specs.declared.format.Format.{Format}
pub use Rattle.vx_base.specs.declared.format.Format.TheVariants.{U8}
pub use Rattle.vx_base.specs.declared.function.Parameters.{Parameters}
pub use Rattle.vx_base.specs.declared.kind.Kind.{Kind}
pub use Rattle.vx_base.specs.declared.node.Node.{Node}
