-- What a frame is answered: no request, the model's reply, or NO_MEMORY.
use Rattle.std.proofs.Common.{◌≡◌, ◌≢◌, ℕ, Bool, true, false, cond, List, Some, None, Result, Ok, Err, inl, inr, refl, sym, ap, ◌∙◌, subst, eq-eqb, ◌&&◌, ◌==◌, if◌then◌else◌, eqb-true}
use Rattle.vx_requests.proofs.Common.{cases_Bool, Request, ReadImage, ReadImagePgm, Reply, Refused, LimitsValue, State, answer_to, image_of, pgm_text, U8, picture_of, Reference, BodyFault, answer_spelled, spelled_frame, state_then, frame_of, MayBeLost, IsReply, said_in, Said, said_of, parse_fault, fault_code, request_of, Text}
use Rattle.vx_requests.specs.Serving.Clients.{reply_to}
use Rattle.client_model.specs.Answer.{reply_and_state}
use Rattle.client_model.specs.Images.{read_from, read_text_from}
use Rattle.client_model.specs.Refusal.{reply_unless}
use Rattle.client_model.specs.declared.refusal.Refusal.TheVariants.{InvalidFormat}
use Rattle.client_model.specs.declared.reply.Reply.TheVariants.{Text as TextReply}
use Rattle.vx_base.specs.Sample.{same_format}
use Rattle.vx_base.specs.declared.code.Code.TheVariants.{NoMemory as CodeNoMemory}
use Rattle.vx_wire.specs.declared.parse_fault.ParseFault.{ParseFault}
use Rattle.vx_requests.specs.Serving.Answer.{answer}
use Rattle.vx_requests.specs.Serving.Lost.{NeedsMemory, SpellsTaking}
use Rattle.vx_requests.specs.declared.serving.answered.ReplyContent.TheVariants.{Samples}
use Rattle.client_model.specs.Request.{TakesMemory}
use Rattle.vx_wire.specs.Faults.{MayFailWith}
use Rattle.vx_wire.specs.Requests.{HoldsSamples}

-- the model's answer to a body, given the request that the body encodes
answer_is :
    (limits : LimitsValue) (state : State) (op : ℕ) (body : List ℕ)
    (spelled_frame : Result Request BodyFault)
    → request_of op body ≡ spelled_frame
    → answer limits state op body ≡ answer_spelled limits state spelled_frame
unfolding answer
answer_is limits state op body spelled_frame is = ap (answer_spelled limits state) is

-- a lost frame changes no client
pub lost_states :
    (limits : LimitsValue) (states : ℕ → State) (client op : ℕ) (body : List ℕ) (other : ℕ)
    → states other
    ≡ state_then (answer limits) states
    (record { frame = frame_of client op body; lost = true }) other
lost_states limits states client op body other =
    elim (client == other) as
    (λ b. states other ≡ cond (b && false) (answer limits (states other) op body).1 (states other))
    [ true ↦ refl | false ↦ refl ]

-- a kept one changes its own
kept_states : (limits : LimitsValue) (old new : ℕ → State) (client op : ℕ) (body : List ℕ)
    → new client ≡ (answer limits (old client) op body).1
    → ((other : ℕ) → other ≢ client → new other ≡ old other)
    → (other : ℕ)
    → new other
    ≡ state_then (answer limits) old (record { frame = frame_of client op body; lost = false })
    other
kept_states limits old new client op body own others other =
    let state = λ (b : Bool). cond (b && true) (answer limits (old other) op body).1 (old other) in
    elim (cases_Bool (client == other)) [
      | inl same ↦
          let e : client ≡ other = eqb-true client other same in
          subst (λ (c : ℕ). new c ≡ (answer limits (old c) op body).1) e own ∙ sym (ap state same)
      | inr differ ↦
          others other
          (λ e. let same : (client == other) ≡ true = eq-eqb client other (sym e) in cc)
          ∙ sym (ap state differ)
    ]

-- a request needs memory if its samples are parsed or its answer allocates, except for the two that
-- read an image
wants_to_parse : (request : Request) → HoldsSamples request → NeedsMemory request
wants_to_parse (ReadImage image) holds = holds
wants_to_parse (ReadImagePgm image) holds = holds
wants_to_parse request holds = inl holds

wants_to_answer : (request : Request)
    → ((image : Reference) → request ≢ ReadImage image)
    → ((image : Reference) → request ≢ ReadImagePgm image)
    → TakesMemory request
    → NeedsMemory request
wants_to_answer (ReadImage image) other no_text takes = other image refl
wants_to_answer (ReadImagePgm image) other no_text takes = no_text image refl
wants_to_answer request other no_text takes = inr takes

-- ReadImage and ReadImagePgm leave their client's state as it is
reading_changes_nothing : (limits : LimitsValue) (state : State) (image : Reference)
    → (answer_to limits state (ReadImage image)).1 ≡ state
reading_changes_nothing limits None image = refl
reading_changes_nothing limits (Some c) image =
    elim (image_of c.objects image) as
    (λ found. (reply_and_state c (read_from found c)).1 ≡ Some c)
    [ Ok is ↦ refl | Err refusal ↦ refl ]

reading_a_text_changes_nothing : (limits : LimitsValue) (state : State) (image : Reference)
    → (answer_to limits state (ReadImagePgm image)).1 ≡ state
reading_a_text_changes_nothing limits None image = refl
reading_a_text_changes_nothing limits (Some c) image =
    elim (image_of c.objects image) as
    (λ found. (reply_and_state c (read_text_from found c)).1 ≡ Some c) [
      | Ok is ↦
          elim (same_format is.format U8) as
          (λ b.
          (reply_and_state c
          (reply_unless (if b then None else Some InvalidFormat)
          (TextReply (pgm_text (picture_of is))) c)).1
          ≡ Some c)
          [ true ↦ refl | false ↦ refl ]
      | Err refusal ↦ refl
    ]

module _ (limits : LimitsValue) (old new : ℕ → State) (client op : ℕ) (body : List ℕ) where
  -- want of memory
  pub lost_reply : MayBeLost (frame_of client op body)
      → ((each : ℕ) → new each ≡ old each)
      → IsReply limits (frame_of client op body) old new
      (spelled_frame client op (said_of (Refused CodeNoMemory)))
  lost_reply may same = record {
    lost = true;
    may = λ e. may;
    states = λ each. same each ∙ lost_states limits old client op body each;
    said = refl;
  }

  -- a body that encodes no request
  pub refused_reply : (fault : BodyFault)
      → request_of op body ≡ Err fault
      → ((each : ℕ) → new each ≡ old each)
      → IsReply limits (frame_of client op body) old new
      (spelled_frame client op (said_of (Refused (fault_code (parse_fault fault)))))
  refused_reply fault spelled_frame same =
      let is = answer_is limits (old client) op body (Err fault) spelled_frame in
      record {
        lost = false;
        may = λ e. cc;
        states =
            kept_states limits old new client op body
            (same client ∙ sym (ap (λ (a : Said × State). a.1) is))
            (λ other differs. same other);
        said = sym (ap (λ (a : Said × State). reply_to (frame_of client op body) a.0) is);
      }

  -- a request that the runtime answered
  pub kept_reply : (request : Request) (reply : Reply)
      → request_of op body ≡ Ok request
      → reply ≡ (answer_to limits (old client) request).0
      → new client ≡ (answer_to limits (old client) request).1
      → ((other : ℕ) → other ≢ client → new other ≡ old other)
      → IsReply limits (frame_of client op body) old new (spelled_frame client op (said_of reply))
  kept_reply request reply spelled_frame replied own others =
      let is = answer_is limits (old client) op body (Ok request) spelled_frame in
      record {
        lost = false;
        may = λ e. cc;
        states =
            kept_states limits old new client op body
            (own ∙ sym (ap (λ (a : Said × State). a.1) is)) others;
        said =
            ap (λ r. reply_to (frame_of client op body) (said_of r)) replied
            ∙ sym (ap (λ (a : Said × State). reply_to (frame_of client op body) a.0) is);
      }

  -- a request to read an image, which changes nothing
  pub read_reply : (image : Reference)
      → request_of op body ≡ Ok (ReadImage image)
      → ((each : ℕ) → new each ≡ old each)
      → IsReply limits (frame_of client op body) old new
      (spelled_frame client op (said_in limits (new client) (Samples image)))
  read_reply image spelled_frame same =
      kept_reply (ReadImage image) (answer_to limits (new client) (ReadImage image)).0
      spelled_frame (ap (λ (s : State). (answer_to limits s (ReadImage image)).0) (same client))
      (same client ∙ sym (reading_changes_nothing limits (old client) image))
      (λ other differs. same other)

  -- and one to read it as a text
  pub text_reply : (image : Reference)
      → request_of op body ≡ Ok (ReadImagePgm image)
      → ((each : ℕ) → new each ≡ old each)
      → IsReply limits (frame_of client op body) old new
      (spelled_frame client op (said_in limits (new client) (Text image)))
  text_reply image spelled_frame same =
      kept_reply (ReadImagePgm image) (answer_to limits (new client) (ReadImagePgm image)).0
      spelled_frame
      (ap (λ (s : State). (answer_to limits s (ReadImagePgm image)).0) (same client))
      (same client ∙ sym (reading_a_text_changes_nothing limits (old client) image))
      (λ other differs. same other)

  -- a request for which the runtime found no memory
  pub wanting_reply : (request : Request)
      → request_of op body ≡ Ok request
      → ((image : Reference) → request ≢ ReadImage image)
      → ((image : Reference) → request ≢ ReadImagePgm image)
      → TakesMemory request
      → ((each : ℕ) → new each ≡ old each)
      → IsReply limits (frame_of client op body) old new
      (spelled_frame client op (said_of (Refused CodeNoMemory)))
  wanting_reply request spelled_frame other no_text takes same =
      lost_reply
      (inr (subst SpellsTaking (sym spelled_frame) (wants_to_answer request other no_text takes)))
      same

  -- a body from which parse read no request
  pub fault_reply : (fault : ParseFault)
      → MayFailWith (request_of op body) fault
      → ((each : ℕ) → new each ≡ old each)
      → IsReply limits (frame_of client op body) old new
      (spelled_frame client op (said_of (Refused (fault_code fault))))
  fault_reply fault why same = known (request_of op body) refl why
    where
      Answered : ParseFault → Type 0
      Answered fault =
          IsReply limits (frame_of client op body) old new
          (spelled_frame client op (said_of (Refused (fault_code fault))))

      known : (spelled_frame : Result Request BodyFault)
          → request_of op body ≡ spelled_frame
          → MayFailWith spelled_frame fault
          → Answered fault
      known (Ok request) is (wanted, holds) =
          subst Answered (sym wanted)
          (lost_reply (inr (subst SpellsTaking (sym is) (wants_to_parse request holds))) same)
      known (Err refused) is e = subst Answered (sym e) (refused_reply refused is same)
