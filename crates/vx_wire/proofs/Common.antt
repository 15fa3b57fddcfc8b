-- The names that several proofs cite, passed on from one place. Declares nothing.
pub use Rattle.client_model.specs.Request.{IsRequest}
pub use Rattle.client_model.specs.declared.request.Request.{Request}
pub use Rattle.client_model.specs.declared.request.Request.TheVariants.{
  AddNode,
  AgeDelay,
  CreateConvolution,
  CreateDelay,
  CreateDistribution,
  CreateGraph,
  CreateImage,
  CreateLut,
  CreateMinMax,
  CreateThreshold,
  CreateVirtualImage,
  Immediate,
  OpenContext,
  ProcessGraph,
  QueryImage,
  ReadDistribution,
  ReadImage,
  ReadImagePgm,
  ReadMinMax,
  RegisterAutoAging,
  Release,
  ReleaseContext,
  RemoveNode,
  SetValid,
  VerifyGraph,
  WriteImage,
  WriteImagePgm,
}
pub use Rattle.std.proofs.lemmas.Bool.Decides.{nat_tests}
pub use Rattle.std.proofs.lemmas.Int.{ints}
pub use Rattle.std.proofs.lemmas.List.Elements.{
  All-cons,
  All-drop,
  All-head,
  All-nil,
  All-tail,
  All-take,
}
pub use Rattle.std.proofs.lemmas.Nat.{from_be_bytes-to_be_bytes_4}
pub use Rattle.std.specs.Int.{cast_unsigned, to_be_bytes, w16, w32}
pub use Rattle.vx_base.specs.Reference.{Reference, IsReference}
pub use Rattle.vx_base.specs.Convolution.{ConvolutionValue, IsConvolution, is_odd_side}
pub use Rattle.vx_base.specs.Description.{Description, IsDescription, is_side, sample_count}
pub use Rattle.vx_base.specs.Function.{function_number, function_numbered, parameters}
pub use Rattle.vx_base.specs.Lut.{IsLut, LutValue, is_full}
pub use Rattle.vx_base.specs.Node.{IsBorder, IsNode, is_named, is_nothing, is_wrap}
pub use Rattle.vx_base.specs.PartialDescription.{
  IsPartialDescription,
  PartialDescription,
  may_be_side,
}
pub use Rattle.vx_base.specs.Picture.{IsPicture, PictureValue}
pub use Rattle.vx_base.specs.Rectangle.{IsRectangle, Rectangle}
pub use Rattle.vx_base.specs.Sample.{IsSample, range_size, sample_bytes}
pub use Rattle.vx_base.specs.Slots.{is_slot_count}
pub use Rattle.vx_base.specs.Statistics.{BinsValue, are_bins}
pub use Rattle.vx_base.specs.Threshold.{IsThreshold, ThresholdValue, has_limits, is_sample}
pub use Rattle.vx_base.specs.declared.border.Border.{Border}
pub use Rattle.vx_base.specs.declared.border.Border.TheVariants.{Constant, Replicate, Undefined}
pub use Rattle.vx_base.specs.declared.format.Format.{Format}
pub use Rattle.vx_base.specs.declared.format.Format.TheVariants.{S16, U32, U8}
pub use Rattle.vx_base.specs.declared.function.Function.{Function}
pub use Rattle.vx_base.specs.declared.function.Parameters.{Parameters}
pub use Rattle.vx_base.specs.declared.node.Node.{Node}
pub use Rattle.vx_base.specs.declared.policy.Policy.{Policy}
pub use Rattle.vx_base.specs.declared.policy.Policy.TheVariants.{Saturate, Wrap}
pub use Rattle.vx_base.specs.declared.threshold.ThresholdKind.{ThresholdKind}
pub use Rattle.vx_base.specs.declared.threshold.ThresholdKind.TheVariants.{Binary, Range}
pub use Rattle.vx_wire.specs.Bins.{bins_bytes, is_up_to_256, take_bins}
pub use Rattle.vx_wire.specs.Convolution.{convolution_bytes, take_convolution}
pub use Rattle.vx_wire.specs.Description.{description_bytes, take_description, take_side}
pub use Rattle.vx_wire.specs.Fields.{
  FieldResult,
  allowed_or_fault,
  and_then,
  at_end,
  one_field,
  take_byte,
  take_bytes,
  take_long,
  take_short,
  two_fields,
}
pub use Rattle.vx_wire.specs.Format.{
  format_number,
  open_format_number,
  take_format,
  take_input_format,
  take_open_format,
}
pub use Rattle.vx_wire.specs.Lut.{lut_bytes, take_lut}
pub use Rattle.vx_wire.specs.Node.{
  amount_allowed,
  border_bytes,
  node_bytes,
  policy_number,
  take_border,
  take_function,
  take_node,
  take_policy,
}
pub use Rattle.vx_wire.specs.Numbered.{with_number}
pub use Rattle.vx_wire.specs.Op.{op_number, op_of}
pub use Rattle.vx_wire.specs.Operand.{
  first_output,
  is_operand,
  operand,
  operand_bytes,
  second_input,
  second_output,
  take_first_input,
  take_operand,
  take_operands,
}
pub use Rattle.vx_wire.specs.PartialDescription.{
  open_side_number,
  open_side_numbered,
  partial_desc_bytes,
  take_open_side,
  take_partial_desc,
}
pub use Rattle.vx_wire.specs.Rectangle.{rectangle_bytes, take_rectangle}
pub use Rattle.vx_wire.specs.Reference.{reference_bytes, slot_numbered, take_reference}
pub use Rattle.vx_wire.specs.Requests.{body_of, request_of}
pub use Rattle.vx_wire.specs.Samples.{
  decoded_samples,
  decoded_sample,
  encoded_samples,
  encoded_sample,
  picture_bytes,
  take_picture,
  take_samples,
}
pub use Rattle.vx_wire.specs.Slots.{take_slots}
pub use Rattle.vx_wire.specs.Threshold.{
  is_range,
  limit_bytes,
  range_number,
  take_is_range,
  take_limit,
  take_limits,
  take_signed,
  take_threshold,
  take_upper,
  threshold_bytes,
}
pub use Rattle.vx_wire.specs.declared.body_fault.BodyFault.{BodyFault}
pub use Rattle.vx_wire.specs.declared.body_fault.BodyFault.TheVariants.{
  InvalidDimension,
  InvalidFormat,
  InvalidParameters,
  InvalidValue,
}
pub use Rattle.vx_wire.specs.declared.fields.operand.Presence.{Presence}
pub use Rattle.vx_wire.specs.declared.fields.operand.Presence.TheVariants.{Absent, Free, Required}
