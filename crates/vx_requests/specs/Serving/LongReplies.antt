-- The requests that may have long replies.
use Rattle.std.specs.Prelude.{⊤, Result, Ok, Err}
use Rattle.client_model.specs.declared.request.Request.{Request}
use Rattle.client_model.specs.declared.request.Request.TheVariants.{ReadImage, ReadImagePgm, ReadDistribution}
use Rattle.vx_wire.specs.declared.body_fault.BodyFault.{BodyFault}
use Rattle.vx_wire.specs.Requests.{request_of}
use Rattle.vx_requests.specs.Frame.Frames.{Frame}

-- the reply to the request may have more than 28 bytes
abbrev pub HasLongReply : Request → Type 0
HasLongReply (ReadImage image) = ⊤
HasLongReply (ReadImagePgm image) = ⊤
HasLongReply (ReadDistribution name) = ⊤
HasLongReply request = ⊥

-- the body encodes such a request
abbrev pub SpellsLongReply : Result Request BodyFault → Type 0
SpellsLongReply (Ok request) = HasLongReply request
SpellsLongReply (Err fault) = ⊥

-- the frame has such a request
abbrev pub AsksForLongReply : Frame → Type 0
AsksForLongReply f = SpellsLongReply (request_of f.op f.body)
