-- Request frames, reply frames, and the split of a stream into whole frames and a rest.
use Rattle.std.specs.Prelude.{◌≡◌, ℕ, ◌+◌, ◌<◌, ◌≤◌, ◌^◌, nat_le, Bool, true, List, [], ◌∷◌, ◌++◌, length, take, All, ◌⊎◌}
use Rattle.std.specs.List.{flat_map}
use Rattle.std.specs.Int.{w16, w32, to_be_bytes, from_be_bytes}
use Rattle.client_model.specs.declared.request.Request.{Request}
use Rattle.client_model.specs.declared.request.Request.TheVariants.{WriteImagePgm}
use Rattle.vx_wire.specs.Op.{op_number, op_of}
use Rattle.vx_wire.specs.Requests.{body_of}
use Rattle.vx_requests.specs.declared.frame.limits.TheConstants.{GREATEST_LENGTH, GREATEST_TEXT}

-- a request frame
pub record Frame : Type 0 where
  pub client : ℕ
  pub op : ℕ
  pub body : List ℕ

-- a reply frame
pub record ReplyFrame : Type 0 where
  pub client : ℕ
  pub op : ℕ
  pub code : ℕ
  pub body : List ℕ

-- the request frame with this client, op and body
abbrev pub frame_of : ℕ → ℕ → List ℕ → Frame
frame_of client op body = record { client = client; op = op; body = body }

-- the payload of a request frame: the client, the op and the body, which follow the length
abbrev pub payload : Frame → List ℕ
payload f = to_be_bytes w16 f.client ++ f.op ∷ f.body

-- the bytes of a request frame: the length of the payload, then the payload
abbrev pub frame_bytes : Frame → List ℕ
frame_bytes f = to_be_bytes w32 (length f.body + 3) ++ payload f

-- the bytes before a request's body
abbrev pub frame_head : ℕ → ℕ → ℕ → List ℕ
frame_head len client op = to_be_bytes w32 len ++ (to_be_bytes w16 client ++ op ∷ [])

-- the bytes before a reply's body
abbrev pub reply_head : ℕ → ℕ → ℕ → ℕ → List ℕ
reply_head len client op code = to_be_bytes w32 len ++ (to_be_bytes w16 client ++ op ∷ code ∷ [])

-- the bytes of a reply frame: the number of bytes that follow, then the client, the op, the code
-- and the body
abbrev pub reply_bytes : ReplyFrame → List ℕ
reply_bytes r =
    to_be_bytes w32 (length r.body + 4) ++ (to_be_bytes w16 r.client ++ r.op ∷ r.code ∷ r.body)

-- the bytes of request frames, one after the other
abbrev pub frames_bytes : List Frame → List ℕ
frames_bytes frames = flat_map frame_bytes frames

-- the bytes of reply frames, one after the other
abbrev pub joined_replies : List ReplyFrame → List ℕ
joined_replies replies = flat_map reply_bytes replies

-- a length that a request frame's payload may have: 3 to 2^29
abbrev pub IsLength : ℕ → Type 0
IsLength n = (3 ≤ n) × (n ≤ GREATEST_LENGTH)

-- a frame that can be sent: each field is in its range, and the body is not too long
pub record IsFrame (f : Frame) : Type 0 where
  pub client : f.client < 2 ^ 16
  pub op : f.op < 2 ^ 8
  pub bytes : All (λ b. b < 2 ^ 8) f.body
  pub len : length f.body + 3 ≤ GREATEST_LENGTH

-- the length that the four bytes at the front encode
abbrev pub said_length : List ℕ → ℕ
said_length bytes = from_be_bytes w32 (take 4 bytes)

-- the beginning of a frame, possibly empty: fewer than four bytes, or a length in range and an
-- incomplete payload
abbrev pub IsBegun : List ℕ → Type 0
IsBegun rest = 4 ≤ length rest → IsLength (said_length rest) × (length rest < said_length rest + 4)

-- the beginning of a frame: at least one byte, but not the whole frame
abbrev pub IsTruncated : List ℕ → Type 0
IsTruncated rest = (0 < length rest) × IsBegun rest

-- a length out of range, and any bytes after it
abbrev pub BeginsBadly : List ℕ → Type 0
BeginsBadly rest = (4 ≤ length rest) × (IsLength (said_length rest) → ⊥)

-- a rest without a whole frame: the beginning of a frame, or a length out of range and any bytes
-- after it
abbrev pub IsRest : List ℕ → Type 0
IsRest rest = IsBegun rest ⊎ BeginsBadly rest

-- the stream is these frames, followed by this rest
pub record Splits (stream : List ℕ) (frames : List Frame) (rest : List ℕ) : Type 0 where
  pub whole : stream ≡ frames_bytes frames ++ rest
  pub each : All IsFrame frames
  pub rest_is : IsRest rest

-- the frame in which a client sends a request
abbrev pub request_frame : ℕ → Request → Frame
request_frame client request = record {
  client = client;
  op = op_number (op_of request);
  body = body_of request;
}

-- whether a request fits a frame: every request does, unless it has a text that is too long
abbrev pub fits_a_frame : Request → Bool
fits_a_frame (WriteImagePgm image text) = nat_le (length text) GREATEST_TEXT
fits_a_frame request = true
