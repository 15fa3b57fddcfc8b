-- The names that several proofs cite, passed on from one place. Declares nothing.
pub use Rattle.client_model.specs.Limits.{LimitsValue}
pub use Rattle.client_model.specs.Operands.{
  holds_nothing,
  image_of,
  is_kind,
  kind_of,
  operands_refusal,
  stands_for,
}
pub use Rattle.client_model.specs.Refusal.{reply_unless}
pub use Rattle.client_model.specs.States.{KeepsLimits, NodesStand, kind_held, holds_operand}
pub use Rattle.client_model.specs.declared.refusal.Refusal.{Refusal}
pub use Rattle.client_model.specs.declared.reply.Reply.TheVariants.{Empty}
pub use Rattle.graph_run.proofs.CellLemmas.{IsReplacement}
pub use Rattle.graph_run.proofs.LastingLemmas.{images-last}
pub use Rattle.graph_run.proofs.OperandLaws.{kind-operand}
pub use Rattle.graph_run.specs.Lasting.{Lasts, lasting_part, lasting_named}
pub use Rattle.graph_verify.proofs.SuitLemmas.{Suits, passed}
pub use Rattle.graph_verify.specs.Operand.{operand_format, operand_kind, operand_of}
pub use Rattle.graph_verify.specs.declared.operand.Operand.{Operand}
pub use Rattle.graph_verify.specs.declared.operand.Operand.TheVariants.{Image}
pub use Rattle.object_table.proofs.HeldLemmas.{
  All-from_map,
  held_by_name,
  held_is,
  named_has,
  names_of,
  object_held_has,
}
pub use Rattle.object_table.specs.Context.{Context, object_named, with_graph, with_objects}
pub use Rattle.object_table.specs.Delay.{in_slot}
pub use Rattle.object_table.specs.Holds.{is_held, is_used, names_it, still_held, uses}
pub use Rattle.object_table.specs.NamedObject.{NamedObject, object_at, object_held, with_object}
pub use Rattle.object_table.specs.Skeleton.{skeleton}
pub use Rattle.object_table.specs.Uses.{nodes_in}
pub use Rattle.std.proofs.lemmas.Bool.{and_parts, cond_both, not-false, or_cases}
pub use Rattle.std.proofs.lemmas.List.{length-map}
pub use Rattle.std.proofs.lemmas.List.Elements.{
  All-append,
  All-cons,
  All-filter,
  All-map,
  All-nil,
  All-push,
  All-tail,
  All-weaker,
}
pub use Rattle.std.proofs.lemmas.List.Folds.{find-append, list_any-append}
pub use Rattle.std.proofs.lemmas.Option.{IfSome_then}
pub use Rattle.std.specs.List.Sorted.{IsStrictlyIncreasing}
pub use Rattle.std.specs.Option.{option_and_then, option_map}
pub use Rattle.vx_base.specs.Reference.{Reference, reference_to}
pub use Rattle.vx_base.specs.Description.{Description}
pub use Rattle.vx_base.specs.Function.{parameters}
pub use Rattle.vx_base.specs.Graph.{GraphValue, IsGraph}
pub use Rattle.vx_base.specs.Image.{ImageValue, IsImage, description_of}
pub use Rattle.vx_base.specs.Node.{IsNode, operands, second_kind}
pub use Rattle.vx_base.specs.Object.{
  ExtremesObject,
  GraphObject,
  ImageObject,
  IsObject,
  ObjectValue,
  object_kind,
}
pub use Rattle.vx_base.specs.PartialDescription.{PartialDescription}
pub use Rattle.vx_base.specs.declared.function.Function.{Function}
pub use Rattle.vx_base.specs.declared.kind.Kind.{Kind}
pub use Rattle.vx_base.specs.declared.node.Node.{Node}
pub use Rattle.vx_base.specs.declared.numbered.Numbered.{Numbered}
