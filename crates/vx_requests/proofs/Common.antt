-- The names that several proofs cite, passed on from one place. Declares nothing.
pub use Rattle.client_contexts.specs.World.{World, state_of}
pub use Rattle.client_model.specs.Limits.{LimitsValue}
pub use Rattle.client_model.specs.Answer.{answer_to}
pub use Rattle.client_model.specs.Context.{State}
pub use Rattle.client_model.specs.Operands.{image_of}
pub use Rattle.client_model.specs.Request.{IsRequest}
pub use Rattle.client_model.specs.declared.reply.Reply.{Reply}
pub use Rattle.client_model.specs.declared.reply.Reply.TheVariants.{Refused}
pub use Rattle.client_model.specs.declared.request.Request.{Request}
pub use Rattle.client_model.specs.declared.request.Request.TheVariants.{
  CreateConvolution,
  CreateLut,
  ReadImage,
  ReadImagePgm,
  WriteImage,
  WriteImagePgm,
}
pub use Rattle.pgm_images.specs.Writing.{pgm_text}
pub use Rattle.std.proofs.KnownBytes.{Appends-kept, Appends-nil, Appends-trans, Consumes-trans}
pub use Rattle.std.proofs.lemmas.Bool.{cases_Bool}
pub use Rattle.std.proofs.lemmas.List.{length-map, map_push}
pub use Rattle.std.proofs.lemmas.List.Elements.{All-append, All-drop, All-head, All-tail, All-take}
pub use Rattle.std.proofs.lemmas.Nat.{be_bytes_2, be_bytes_4, from_be_bytes-to_be_bytes_4}
pub use Rattle.std.proofs.lemmas.Result.{err_from_is_err_and}
pub use Rattle.std.specs.Int.{from_be_bytes, to_be_bytes, w16, w32}
pub use Rattle.std.specs.Io.KnownBytes.{Appends, Consumes, Keeps}
pub use Rattle.std.specs.List.{flat_map}
pub use Rattle.vx_base.specs.Reference.{Reference}
pub use Rattle.vx_base.specs.Description.{Description, byte_count, sample_count}
pub use Rattle.vx_base.specs.Image.{IsImage}
pub use Rattle.vx_base.specs.Picture.{Describes, PictureValue, picture_of, samples_format, values}
pub use Rattle.vx_base.specs.Sample.{sample_bytes}
pub use Rattle.vx_base.specs.declared.code.Code.{Code}
pub use Rattle.vx_base.specs.declared.code.Code.TheVariants.{NoMemory}
pub use Rattle.vx_base.specs.declared.format.Format.{Format}
pub use Rattle.vx_base.specs.declared.format.Format.TheVariants.{U8}
pub use Rattle.vx_requests.specs.Frame.Frames.{
  Frame,
  IsFrame,
  IsLength,
  IsRest,
  ReplyFrame,
  Splits,
  frame_bytes,
  frame_of,
  frames_bytes,
  reply_bytes,
  reply_head,
  request_frame,
  said_length,
}
pub use Rattle.vx_requests.specs.Frame.Reading.{
  BreaksOff,
  KeepsCount,
  ReadsPart,
  ReadsSamples,
  ReadsSome,
}
pub use Rattle.vx_requests.specs.Serving.Answer.{answer, answer_spelled}
pub use Rattle.vx_requests.specs.Serving.Clients.{
  ReceivedFrame,
  after,
  answer_frame,
  frames_of,
  is_kept_of,
  mine,
  reply_in,
  served,
  spelled_frame,
  state_then,
  states_after,
  states_of,
}
pub use Rattle.vx_requests.specs.Serving.Lost.{MayBeLost}
pub use Rattle.vx_requests.specs.Serving.Session.{Session}
pub use Rattle.vx_requests.specs.Serving.Turn.{
  AnswersBody,
  IsReply,
  ServesFrame,
  Turn,
  reply_frame,
  said_in,
}
pub use Rattle.vx_requests.specs.Stream.Transfer.{AppendsFront, AppendsPart, Sends}
pub use Rattle.vx_requests.specs.declared.serving.answered.Answered.{Answered}
pub use Rattle.vx_requests.specs.declared.serving.answered.ReplyContent.{ReplyContent}
pub use Rattle.vx_requests.specs.declared.serving.answered.ReplyContent.TheVariants.{Made, Text}
pub use Rattle.vx_requests.specs.declared.serving.summary.Summary.{Summary}
pub use Rattle.vx_requests.specs.declared.stream.fault.StreamFault.{StreamFault}
pub use Rattle.vx_requests.specs.declared.stream.fault.StreamFault.TheVariants.{WriteFailed}
pub use Rattle.vx_wire.proofs.SampleBytes.{length-encoded}
pub use Rattle.vx_wire.specs.Description.{description_bytes}
pub use Rattle.vx_wire.specs.Faults.{fault_code, parse_fault}
pub use Rattle.vx_wire.specs.Op.{op_numbered}
pub use Rattle.vx_wire.specs.Replies.{Said, said_of}
pub use Rattle.vx_wire.specs.Requests.{request_of}
pub use Rattle.vx_wire.specs.Samples.{decoded_samples, encoded_sample}
pub use Rattle.vx_wire.specs.declared.body_fault.BodyFault.{BodyFault}
pub use borrow.Rule.Slice.PartMut.{put_mid}
