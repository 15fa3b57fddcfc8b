-- One turn of serve: a frame is read and answered, and its reply is written.
use Rattle.std.specs.Prelude.{◌≡◌, ℕ, ◌+◌, ◌<◌, ◌^◌, Bool, true, List, [], length, All, Option, Some, None, Result, Ok, Err, ◌⊎◌}
use Rattle.std.specs.Io.KnownBytes.{Consumes, Appends, IsAtEnd}
use Rattle.client_model.specs.Limits.{LimitsValue}
use Rattle.client_model.specs.Context.{State}
use Rattle.client_model.specs.Answer.{answer_to}
use Rattle.client_model.specs.declared.request.Request.TheVariants.{ReadImage, ReadImagePgm}
use Rattle.vx_requests.specs.declared.stream.fault.StreamFault.{StreamFault}
use Rattle.vx_requests.specs.declared.stream.fault.StreamFault.TheVariants.{WriteFailed}
use Rattle.vx_requests.specs.declared.serving.answered.Answered.{Answered}
use Rattle.vx_requests.specs.declared.serving.answered.ReplyContent.{ReplyContent}
use Rattle.vx_requests.specs.declared.serving.answered.ReplyContent.TheVariants.{Made, Samples, Text}
use Rattle.vx_requests.specs.Stream.Transfer.{AppendsFront}
use Rattle.vx_requests.specs.Frame.Frames.{Frame, ReplyFrame, IsFrame, frame_of, payload, frame_bytes, reply_bytes}
use Rattle.vx_requests.specs.Serving.Answer.{answer}
use Rattle.vx_requests.specs.Serving.Clients.{spelled_frame, reply_in, state_then}
use Rattle.vx_requests.specs.Serving.Lost.{MayBeLost}
use Rattle.vx_requests.specs.Frame.Reading.{BreaksOff, ReadsPart}
use Rattle.vx_wire.specs.Replies.{Said, said_of}

-- the reply to a frame, and the clients' states after the frame; the frame was lost only if
-- `MayBeLost` allows it
pub record IsReply (limits : LimitsValue) (f : Frame) (old new : ℕ → State) (reply : ReplyFrame)
    : Type 0 where
  pub lost : Bool
  pub may : lost ≡ true → MayBeLost f
  pub states : (client : ℕ)
      → new client ≡ state_then (answer limits) old (record { frame = f; lost = lost }) client
  pub said : reply ≡ reply_in (answer limits) old (record { frame = f; lost = lost })

-- each client's state is as before
abbrev pub SameStates : (old new : ℕ → State) → Type 0
SameStates old new = (client : ℕ) → new client ≡ old client

-- the code and body of a reply, given its content and its client's state
abbrev pub said_in : LimitsValue → State → ReplyContent → Said
said_in limits state (Made reply) = said_of reply
said_in limits state (Samples image) = said_of (answer_to limits state (ReadImage image)).0
said_in limits state (Text image) = said_of (answer_to limits state (ReadImagePgm image)).0

-- the frame of a reply, given the clients' states
abbrev pub reply_frame : LimitsValue → (ℕ → State) → Answered → ReplyFrame
reply_frame limits states a =
    spelled_frame a.client a.op (said_in limits (states a.client) a.content)

module _ (limits : LimitsValue) (left_old left_new : Option (List ℕ)) (old new : ℕ → State) where
  -- after a frame's client and op: a body of `len` bytes was read and answered, or fewer than `len`
  -- bytes were read
  abbrev pub AnswersBody : (client op len : ℕ) → Result ReplyContent StreamFault → Type 0
  AnswersBody client op len (Ok content) =
      (body : List ℕ)
      × Consumes left_old left_new body
      × (length body ≡ len)
      × All (λ b. b < 2 ^ 8) body
      × IsReply limits (frame_of client op body) old new
      (reply_frame limits new (record { client = client; op = op; content = content }))
  AnswersBody client op len (Err e) = ReadsPart left_old left_new len e × SameStates old new

  -- after a frame's length: a payload of `len` bytes was read and answered, or fewer than `len`
  -- bytes were read
  abbrev pub AnswersPayload : ℕ → Result Answered StreamFault → Type 0
  AnswersPayload len (Ok a) =
      (f : Frame)
      × IsFrame f
      × (length f.body + 3 ≡ len)
      × Consumes left_old left_new (payload f)
      × IsReply limits f old new (reply_frame limits new a)
  AnswersPayload len (Err e) = ReadsPart left_old left_new len e × SameStates old new

-- the reply frame was written; or a write or the flush failed, and the sink took a prefix of the
-- frame
abbrev pub WritesReply : Option (List ℕ)
    → Option (List ℕ)
    → ReplyFrame
    → Result ℕ StreamFault
    → Type 0
WritesReply old new r (Ok code) = Appends old new (reply_bytes r) × (code ≡ r.code)
WritesReply old new r (Err e) = (e ≡ WriteFailed) × AppendsFront old new (reply_bytes r)

module _ (limits : LimitsValue) (left_old left_new taken_old taken_new : Option (List ℕ))
    (old new : ℕ → State) where
  -- a whole frame was read, and writing its reply had this result
  abbrev pub ServesFrame : Result ℕ StreamFault → Type 0
  ServesFrame result =
      (f : Frame)
      × (reply : ReplyFrame)
      × IsFrame f
      × Consumes left_old left_new (frame_bytes f)
      × IsReply limits f old new reply
      × WritesReply taken_old taken_new reply result

  -- less than a frame was read, and nothing was written
  abbrev pub ServesNothing : StreamFault → Type 0
  ServesNothing e =
      (rest : List ℕ)
      × Consumes left_old left_new rest
      × BreaksOff e rest left_new
      × SameStates old new
      × Appends taken_old taken_new []

  -- one turn: the stream had ended, a frame was served, or there was a fault
  abbrev pub Turn : Result (Option ℕ) StreamFault → Type 0
  Turn (Ok None) =
      Consumes left_old left_new []
      × IsAtEnd left_new
      × SameStates old new
      × Appends taken_old taken_new []
  Turn (Ok (Some code)) = ServesFrame (Ok code)
  Turn (Err e) = ServesNothing e ⊎ ServesFrame (Err e)
