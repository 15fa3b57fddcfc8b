-- What a WriteImage frame is answered, once the head of its body was read.
use Rattle.std.proofs.Common.{◌≡◌, ◌≢◌, ℕ, ℤ, ◌*◌, ◌-◌, ◌<◌, ◌^◌, List, ◌++◌, Option, Some, Result, Ok, Err, inl, inr, ◌⊎◌, refl, arith, length, sym, ap, subst, ◌∙◌, length-append, All, OnOk, IfOk, IfErr}
use Rattle.vx_requests.proofs.Common.{Consumes, Consumes-trans, All-append, Reference, Description, sample_count, byte_count, PictureValue, sample_bytes, Code, NoMemory, Request, WriteImage, Reply, Refused, LimitsValue, State, answer_to, BodyFault, op_numbered, parse_fault, fault_code, said_of, decoded_samples, StreamFault, ReplyContent, Made, frame_of, ReadsPart, ReadsSome, ReadsSamples, spelled_frame, IsReply, reply_frame, AnswersBody}
use Rattle.std.specs.Prelude.{⊤}
use Rattle.vx_base.specs.declared.format.Format.{Format}
use Rattle.client_contexts.specs.Incoming.{IsRead, SaysWhyUnwritten}
use Rattle.client_contexts.specs.declared.source.WriteFault.{WriteFault}
use Rattle.client_contexts.specs.declared.source.WriteFault.TheVariants.{Refused as FaultRefused, Source as FaultSource}
use Rattle.vx_wire.specs.declared.op.Op.TheVariants as ops
use Rattle.vx_wire.specs.Images.{write_image_in, write_image_of}
use Rattle.vx_requests.proofs.Pieces.{part_after}
use Rattle.vx_requests.proofs.FrameReplies.{lost_reply, refused_reply, kept_reply}

-- why a picture isn't written, taken apart
module _ {S E : Type 0} (fills : S → S → Format → List ℤ → Result ⊤ E → Type 0)
    (d : Description) (from to : S) (refuses : Code → Type 0) where
  pub unread : (why : WriteFault E) (code : Code)
      → why ≡ FaultRefused code
      → SaysWhyUnwritten fills d from to refuses why
      → (to ≡ from) × ((code ≡ NoMemory) ⊎ refuses code)
  unread why code is said = subst (SaysWhyUnwritten fills d from to refuses) is said

  pub read_in_part : (why : WriteFault E) (fault : E)
      → why ≡ FaultSource fault
      → SaysWhyUnwritten fills d from to refuses why
      → (p : PictureValue) × IsRead fills d from to p (Err fault)
  read_in_part why fault is said = subst (SaysWhyUnwritten fills d from to refuses) is said

module _ (limits : LimitsValue) (old new : ℕ → State) (client op len : ℕ) (head : List ℕ) where
  -- a body with a fault is refused
  pub refused_rest : (fault : BodyFault)
      → op_numbered op ≡ Some ops.WriteImage
      → ((rest : List ℕ) → length rest ≡ len - 10 → write_image_in (head ++ rest) ≡ Err fault)
      → ((each : ℕ) → new each ≡ old each) → (rest : List ℕ) → length rest ≡ len - 10
      → IsReply limits (frame_of client op (head ++ rest)) old new
      (spelled_frame client op (said_of (Refused (fault_code (parse_fault fault)))))
  refused_rest fault is none same rest size =
      refused_reply limits old new client op (head ++ rest) fault (rw is (none rest size)) same

  -- one whose picture the image doesn't take is refused, and one for whose samples there is no
  -- memory is lost
  pub unwritten_rest : (image : Reference) (d : Description) (code : Code)
      → op_numbered op ≡ Some ops.WriteImage
      → 64 < len
      → length head ≡ 10
      →
      ((rest : List ℕ)
      → length rest ≡ len - 10
      → write_image_in (head ++ rest) ≡ Ok (write_image_of image d rest))
      → (code ≡ NoMemory)
      ⊎
      ((p : PictureValue)
      → p.description ≡ d
      → answer_to limits (old client) (WriteImage image p) ≡ (Refused code, old client))
      → ((each : ℕ) → new each ≡ old each) → (rest : List ℕ) → length rest ≡ len - 10
      → IsReply limits (frame_of client op (head ++ rest)) old new
      (spelled_frame client op (said_of (Refused code)))
  unwritten_rest image d code is long ten spells (inl none) same rest size =
      subst
      (λ (k : Code). IsReply limits (frame_of client op (head ++ rest)) old new
      (spelled_frame client op (said_of (Refused k))))
      (sym none)
      (lost_reply limits old new client op (head ++ rest)
      (inl (omega (arith, length-append head rest))) same)
  unwritten_rest image d code is long ten spells (inr refused) same rest size =
      let request = write_image_of image d rest in
      let told : answer_to limits (old client) request ≡ (Refused code, old client) =
      refused
      (record { description = d; samples = decoded_samples d.format (sample_count d) rest })
      refl in
      kept_reply limits old new client op (head ++ rest) request (Refused code)
      (rw is (spells rest size))
      (sym (ap (λ (t : Reply × State). t.0) told))
      (same client ∙ sym (ap (λ (t : Reply × State). t.1) told)) (λ other differs. same other)

module _ (limits : LimitsValue) (a b c : Option (List ℕ)) (old new : ℕ → State)
    (client op len : ℕ) (head : List ℕ) where
  -- the rest was read past, or less than that
  pub past_rest : (result : Result ReplyContent StreamFault) (reply : Reply)
      → 64 < len
      → length head ≡ 10
      → All (λ x. x < 2 ^ 8) head
      → Consumes a b head
      → OnOk result (ReadsSome b c (len - 10))
      → IfOk result (λ content. content ≡ Made reply)
      → IfErr result (ReadsPart b c (len - 10))
      → ((each : ℕ) → new each ≡ old each)
      →
      ((rest : List ℕ) → length rest ≡ len - 10 → IsReply limits
      (frame_of client op (head ++ rest)) old new (spelled_frame client op (said_of reply)))
      → AnswersBody limits a c old new client op len result
  past_rest (Ok content) reply long ten bytes front (rest, read, size, others) made part same
      replies = (
        head ++ rest,
        Consumes-trans a b c head rest front read,
        omega (arith, length-append head rest),
        All-append (λ x. x < 2 ^ 8) head rest bytes others,
        subst
            (λ (told : ReplyContent). IsReply limits (frame_of client op (head ++ rest)) old new
            (reply_frame limits new (record { client = client; op = op; content = told })))
            (sym made) (replies rest size),
      )
  past_rest (Err e) reply long ten bytes front read made part same replies =
      (part_after a b c head (len - 10) len e front (omega arith) part, same)

  -- less than the samples was read
  pub cut_samples : (d : Description) (many : ℕ) (e : StreamFault)
      → many ≡ sample_count d
      → 64 < len
      → length head ≡ 10
      → Consumes a b head
      → len - 10 ≡ byte_count d
      → ReadsPart b c (many * sample_bytes d.format) e
      → ((each : ℕ) → new each ≡ old each)
      → AnswersBody limits a c old new client op len (Err e)
  cut_samples d many e all long ten front whole part same =
      let bytes : many * sample_bytes d.format ≡ len - 10 =
      ap (λ n. n * sample_bytes d.format) all ∙ sym whole in (
        part_after a b c head (many * sample_bytes d.format) len e front (omega (arith, bytes))
            part,
        same,
      )

  -- the samples were read, and the runtime wrote the picture
  pub wrote_picture : (image : Reference) (d : Description) (p : PictureValue) (reply : Reply)
      → op_numbered op ≡ Some ops.WriteImage
      → 64 < len
      → length head ≡ 10
      → All (λ x. x < 2 ^ 8) head
      → Consumes a b head
      → p.description ≡ d
      → ReadsSamples b c d.format p.samples
      → length p.samples ≡ sample_count d
      → len - 10 ≡ byte_count d
      →
      ((rest : List ℕ)
      → length rest ≡ len - 10
      → write_image_in (head ++ rest) ≡ Ok (write_image_of image d rest))
      → reply ≡ (answer_to limits (old client) (WriteImage image p)).0
      → new client ≡ (answer_to limits (old client) (WriteImage image p)).1
      → ((other : ℕ) → other ≢ client → new other ≡ old other)
      → AnswersBody limits a c old new client op len (Ok (Made reply))
  wrote_picture image d p reply is long ten bytes front described
      (rest, read, size, others, are) count whole spells replied own same =
      let fills : length rest ≡ len - 10 =
      size ∙ ap (λ n. n * sample_bytes d.format) count ∙ sym whole in
      let known : decoded_samples d.format (sample_count d) rest ≡ p.samples =
      sym (are ∙ ap (λ n. decoded_samples d.format n rest) count) in
      let written : List ℤ → Description → Result Request BodyFault =
      λ zs e. Ok (WriteImage image (record { description = e; samples = zs })) in
      let made : write_image_in (head ++ rest) ≡ Ok (WriteImage image p) =
      spells rest fills
      ∙ ap (λ zs. written zs d) known
      ∙ ap (written p.samples) (sym described) in (
        head ++ rest,
        Consumes-trans a b c head rest front read,
        omega (arith, length-append head rest),
        All-append (λ x. x < 2 ^ 8) head rest bytes others,
        kept_reply limits old new client op (head ++ rest) (WriteImage image p) reply
            (rw is made) replied own same,
      )
