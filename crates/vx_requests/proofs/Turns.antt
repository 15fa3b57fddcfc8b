-- From the bytes after a length to a frame.
use Rattle.std.proofs.Common.{◌≡◌, ℕ, ◌+◌, ◌-◌, ◌<◌, ◌^◌, List, [], ◌∷◌, ◌++◌, Option, Ok, Err, inl, arith, length, refl, sym, ap, subst, All}
use Rattle.vx_requests.proofs.Common.{w16, w32, to_be_bytes, from_be_bytes-to_be_bytes_4, Consumes, Appends, Consumes-trans, Appends-nil, LimitsValue, State, Refused, NoMemory, StreamFault, WriteFailed, Answered, ReplyContent, Made, IsLength, said_length, frame_of, reply_bytes, AppendsFront, BreaksOff, ReadsSome, IsReply, AnswersBody, ServesFrame, Turn, reply_frame}
use Rattle.vx_requests.specs.declared.stream.fault.StreamFault.TheVariants.{Truncated, BadLength, ReadFailed, ReaderWouldNotEnd}
use Rattle.vx_requests.specs.Frame.Frames.{IsBegun, payload}
use Rattle.vx_requests.specs.Frame.Reading.{BreaksIn}
use Rattle.vx_requests.specs.Serving.Turn.{AnswersPayload}
use Rattle.vx_requests.proofs.FrameReplies.{lost_reply}
use Rattle.vx_requests.proofs.Pieces.{part_after}

-- less than a payload after its length is less than a frame
begun : (len : ℕ) (part : List ℕ)
    → IsLength len
    → length part < len
    → IsBegun (to_be_bytes w32 len ++ part)
begun len part ok fewer =
    let said : said_length (to_be_bytes w32 len ++ part) ≡ len =
    from_be_bytes-to_be_bytes_4 len (omega arith) in
    λ _. subst (λ n. IsLength n × (length (to_be_bytes w32 len ++ part) < n + 4)) (sym said)
    (ok, omega arith)

-- and so a stream that breaks off within a frame breaks off after whole frames
breaks_off : (e : StreamFault) (len : ℕ) (part : List ℕ) (left : Option (List ℕ))
    → IsLength len
    → length part < len
    → BreaksIn e left
    → BreaksOff e (to_be_bytes w32 len ++ part) left
breaks_off Truncated len part left ok fewer breaks =
    ((omega arith, begun len part ok fewer), breaks)
breaks_off BadLength len part left ok fewer breaks = absurd breaks
breaks_off ReadFailed len part left ok fewer breaks = begun len part ok fewer
breaks_off WriteFailed len part left ok fewer breaks = absurd breaks
breaks_off ReaderWouldNotEnd len part left ok fewer breaks = begun len part ok fewer

-- a body was read past and lost
pub lost_body :
    (limits : LimitsValue) (a b : Option (List ℕ)) (states : ℕ → State) (client op len : ℕ)
    → 64 < len
    → ReadsSome a b len
    → AnswersBody limits a b states states client op len (Ok (Made (Refused NoMemory)))
lost_body limits a b states client op len long (body, read, size, bytes) = (
  body,
  read,
  size,
  bytes,
  lost_reply limits states states client op body (inl (omega arith)) (λ each. refl),
)

-- a whole payload was read and answered
pub whole_payload :
    (limits : LimitsValue) (a b : Option (List ℕ)) (old new : ℕ → State) (client op : ℕ)
    (body bytes : List ℕ) (content : ReplyContent)
    → client < 2 ^ 16
    → op < 2 ^ 8
    → All (λ x. x < 2 ^ 8) body
    → IsLength (length bytes)
    → bytes ≡ payload (frame_of client op body)
    → Consumes a b bytes
    → IsReply limits (frame_of client op body) old new
    (reply_frame limits new (record { client = client; op = op; content = content }))
    → AnswersPayload limits a b old new (length bytes)
    (Ok (record { client = client; op = op; content = content }))
whole_payload limits a b old new client op body bytes content fits fits' each ok are read reply =
    let long : length bytes ≡ length body + 3 = omega (arith, ap length are) in (
      frame_of client op body,
      record { client = fits; op = fits'; bytes = each; len = omega (arith, long, ok.1) },
      sym long,
      subst (Consumes a b) are read,
      reply,
    )

-- after its client and op, the body of a frame was read and answered
pub answered_payload :
    (limits : LimitsValue) (a b c : Option (List ℕ)) (old new : ℕ → State) (client op len : ℕ)
    (content : ReplyContent)
    → client < 2 ^ 16
    → op < 2 ^ 8
    → IsLength len
    → Consumes a b (to_be_bytes w16 client ++ op ∷ [])
    → AnswersBody limits b c old new client op (len - 3) (Ok content)
    → AnswersPayload limits a c old new len
    (Ok (record { client = client; op = op; content = content }))
answered_payload limits a b c old new client op len content fits fits' ok front
    (body, read, size, bytes, reply) = (
      frame_of client op body,
      record { client = fits; op = fits'; bytes = bytes; len = omega arith },
      omega arith,
      Consumes-trans a b c _ body front read,
      reply,
    )

-- or less than that was read
pub failed_payload :
    (limits : LimitsValue) (a b c : Option (List ℕ)) (old new : ℕ → State) (client op len : ℕ)
    (e : StreamFault)
    → IsLength len
    → Consumes a b (to_be_bytes w16 client ++ op ∷ [])
    → AnswersBody limits b c old new client op (len - 3) (Err e)
    → AnswersPayload limits a c old new len (Err e)
failed_payload limits a b c old new client op len e ok front (read, same) = (
  part_after a b c (to_be_bytes w16 client ++ op ∷ []) (len - 3) len e front (omega arith) read,
  same,
)

-- after a length, less than its payload was read
pub failed_turn :
    (limits : LimitsValue) (a b c to : Option (List ℕ)) (old new : ℕ → State) (len : ℕ)
    → Consumes a b (to_be_bytes w32 len)
    → (e : StreamFault)
    → IsLength len
    → AnswersPayload limits b c old new len (Err e)
    → Turn limits a c to to old new (Err e)
failed_turn limits a b c to old new len front e ok ((part, read, fewer, breaks), same) =
    inl (
      to_be_bytes w32 len ++ part,
      Consumes-trans a b c _ part front read,
      breaks_off e len part c ok fewer breaks,
      same,
      Appends-nil to,
    )

-- after a length, its payload was read and answered, and the reply was written
pub served_turn :
    (limits : LimitsValue) (a b c to tn : Option (List ℕ)) (old new : ℕ → State) (len code : ℕ)
    → Consumes a b (to_be_bytes w32 len)
    → (answered : Answered)
    → AnswersPayload limits b c old new len (Ok answered)
    → Appends to tn (reply_bytes (reply_frame limits new answered))
    → code ≡ (reply_frame limits new answered).code → ServesFrame limits a c to tn old new (Ok code)
served_turn limits a b c to tn old new len code front answered (f, is, long, read, reply) wrote
    told = (
      f,
      reply_frame limits new answered,
      is,
      subst (λ n. Consumes a c (to_be_bytes w32 n ++ payload f)) (sym long)
          (Consumes-trans a b c _ (payload f) front read),
      reply,
      (wrote, told),
    )

-- or the reply was not written whole
pub cut_turn :
    (limits : LimitsValue) (a b c to tn : Option (List ℕ)) (old new : ℕ → State) (len : ℕ)
    (e : StreamFault)
    → Consumes a b (to_be_bytes w32 len)
    → (answered : Answered)
    → AnswersPayload limits b c old new len (Ok answered)
    → e ≡ WriteFailed
    → AppendsFront to tn (reply_bytes (reply_frame limits new answered))
    → ServesFrame limits a c to tn old new (Err e)
cut_turn limits a b c to tn old new len e front answered (f, is, long, read, reply) failed wrote = (
  f,
  reply_frame limits new answered,
  is,
  subst (λ n. Consumes a c (to_be_bytes w32 n ++ payload f)) (sym long)
      (Consumes-trans a b c _ (payload f) front read),
  reply,
  (failed, wrote),
)
