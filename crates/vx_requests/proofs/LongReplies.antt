-- Long replies, the requests that have them, and the states that they leave.
use Rattle.std.proofs.Common.{◌≡◌, ℕ, ◌+◌, ◌<◌, ◌≤◌, Bool, true, false, cond, List, Some, None, Result, Option, Ok, Err, IfOk, inl, inr, arith, length, refl, ap, ◌∙◌, subst, ◌&&◌, ◌==◌, ◌∷◌, eqb-true}
use Rattle.vx_requests.proofs.Common.{cases_Bool, Frame, ReplyFrame, Request, ReadImage, ReadImagePgm, WriteImagePgm, Reply, LimitsValue, State, answer_to, answer_spelled, BodyFault, request_of, reply_bytes, reply_in, state_then, IsReply, image_of, said_of, Reference}
use Rattle.vx_base.specs.Image.{ImageValue}
use Rattle.vx_base.specs.Picture.{PictureValue}
use Rattle.vx_base.specs.Reference.{reference_to}
use Rattle.vx_base.specs.Node.{operands}
use Rattle.vx_base.specs.declared.kind.Kind.TheVariants as kind
use Rattle.pgm_images.specs.declared.fault.PgmFault.{PgmFault}
use Rattle.pgm_images.specs.Reading.{read_result}
use Rattle.object_table.specs.Context.{Context}
use Rattle.client_model.specs.declared.refusal.Refusal.{Refusal}
use Rattle.client_model.specs.declared.request.Request.TheVariants.{OpenContext, ReadDistribution, AddNode, Immediate}
use Rattle.client_model.specs.declared.reply.Reply.TheVariants.{Picture, Text, Counts, Extremes, Empty}
use Rattle.client_model.specs.Answer.{outcome_of, reply_and_state}
use Rattle.client_model.specs.Graphs.{add_to, graph_named}
use Rattle.client_model.specs.Images.{write_text_to}
use Rattle.client_model.specs.Immediate.{node_refusal}
use Rattle.client_model.specs.Operands.{operands_refusal}
use Rattle.client_model.specs.Refusal.{Outcome, refused_or, reply_unless}
use Rattle.vx_requests.specs.Serving.Answer.{answer}
use Rattle.vx_requests.specs.Serving.LongReplies.{HasLongReply, SpellsLongReply, AsksForLongReply}
use Rattle.vx_requests.specs.Serving.Turn.{SameStates}

-- the frame of the reply may have more than 28 bytes
abbrev is_long : Reply → Bool
is_long (Picture p) = true
is_long (Text text) = true
is_long (Counts counts) = true
is_long other = false

-- the frame of the reply may have 28 bytes
abbrev is_wide : Reply → Bool
is_wide (Extremes e) = true
is_wide other = is_long other

short_body : (reply : Reply) → is_long reply ≡ false → length (said_of reply).body ≤ 20
short_body (Picture p) e = cc
short_body (Text text) e = cc
short_body (Counts counts) e = cc
short_body other e = omega arith

small_body : (reply : Reply) → is_wide reply ≡ false → length (said_of reply).body < 20
small_body (Picture p) e = cc
small_body (Text text) e = cc
small_body (Counts counts) e = cc
small_body (Extremes x) e = cc
small_body other e = omega arith

-- ---- outcomes

-- an outcome with a wide reply leaves the context
abbrev WideLeaves : Context → Outcome → Type 0
WideLeaves c outcome = IfOk outcome (λ done. is_wide done.0 ≡ true → done.1 ≡ Some c)

-- an outcome has no long reply
abbrev NeverLong : Outcome → Type 0
NeverLong outcome = IfOk outcome (λ done. is_long done.0 ≡ false)

write_text_leaves :
    (image : Result ImageValue Refusal) (c : Context) (cell : Reference)
    (picture : Result PictureValue PgmFault)
    → WideLeaves c (write_text_to image c cell picture)
write_text_leaves image c cell picture = grind arith

write_text_short :
    (image : Result ImageValue Refusal) (c : Context) (cell : Reference)
    (picture : Result PictureValue PgmFault)
    → NeverLong (write_text_to image c cell picture)
write_text_short image c cell picture = grind arith

unless_leaves : (refusal : Option Refusal) (c d : Context)
    → WideLeaves c (reply_unless refusal Empty d)
unless_leaves refusal c d = grind arith

unless_short : (refusal : Option Refusal) (d : Context) → NeverLong (reply_unless refusal Empty d)
unless_short refusal d = grind arith

refused_or_leaves : (refusal : Option Refusal) (c : Context) (outcome : Outcome)
    → WideLeaves c outcome
    → WideLeaves c (refused_or refusal outcome)
refused_or_leaves refusal c outcome h = grind arith

refused_or_short : (refusal : Option Refusal) (outcome : Outcome)
    → NeverLong outcome
    → NeverLong (refused_or refusal outcome)
refused_or_short refusal outcome h = grind arith

outcome_leaves : (limits : LimitsValue) (c : Context) (request : Request)
    → WideLeaves c (outcome_of limits c request)
outcome_leaves limits c (WriteImagePgm cell text) =
    write_text_leaves (image_of c.objects cell) c cell (read_result text)
outcome_leaves limits c (AddNode graph n) =
    refused_or_leaves
    (operands_refusal (Some graph) c.objects ((reference_to graph, kind.Graph) ∷ operands n)) c
    (add_to (graph_named c.objects graph) c graph n) (grind arith)
outcome_leaves limits c (Immediate n) = unless_leaves (node_refusal c.objects n) c _
outcome_leaves limits c other = grind arith

outcome_short : (limits : LimitsValue) (c : Context) (request : Request)
    → (HasLongReply request → ⊥)
    → NeverLong (outcome_of limits c request)
outcome_short limits c (ReadImage image) none = absurd (none tt)
outcome_short limits c (ReadImagePgm image) none = absurd (none tt)
outcome_short limits c (ReadDistribution name) none = absurd (none tt)
outcome_short limits c (WriteImagePgm cell text) none =
    write_text_short (image_of c.objects cell) c cell (read_result text)
outcome_short limits c (AddNode graph n) none =
    refused_or_short
    (operands_refusal (Some graph) c.objects ((reference_to graph, kind.Graph) ∷ operands n))
    (add_to (graph_named c.objects graph) c graph n) (grind arith)
outcome_short limits c (Immediate n) none = unless_short (node_refusal c.objects n) _
outcome_short limits c other none = grind arith

-- ---- replies of the model

outcome_keeps : (c : Context) (outcome : Outcome)
    → WideLeaves c outcome
    → 20 ≤ length (said_of (reply_and_state c outcome).0).body
    → (reply_and_state c outcome).1 ≡ Some c
outcome_keeps c (Err refusal) leaves long = refl
outcome_keeps c (Ok done) leaves long =
    elim (cases_Bool (is_wide done.0)) [
      | inl wide ↦ leaves wide
      | inr small ↦ absurd (omega (arith, long, small_body done.0 small))
    ]

outcome_fits : (c : Context) (outcome : Outcome)
    → NeverLong outcome
    → length (said_of (reply_and_state c outcome).0).body ≤ 20
outcome_fits c (Err refusal) short = omega arith
outcome_fits c (Ok done) short = short_body done.0 short

answer_leaves : (limits : LimitsValue) (state : State) (request : Request)
    → 20 ≤ length (said_of (answer_to limits state request).0).body
    → (answer_to limits state request).1 ≡ state
answer_leaves limits None OpenContext long = absurd (omega arith)
answer_leaves limits None other long = refl
answer_leaves limits (Some c) request long =
    outcome_keeps c (outcome_of limits c request) (outcome_leaves limits c request) long

answer_fits : (limits : LimitsValue) (state : State) (request : Request)
    → (HasLongReply request → ⊥)
    → length (said_of (answer_to limits state request).0).body ≤ 20
answer_fits limits None OpenContext none = omega arith
answer_fits limits None other none = omega arith
answer_fits limits (Some c) request none =
    outcome_fits c (outcome_of limits c request) (outcome_short limits c request none)

asks : (limits : LimitsValue) (state : State) (request : Request)
    → 20 < length (said_of (answer_to limits state request).0).body
    → HasLongReply request
asks limits state (ReadImage image) long = tt
asks limits state (ReadImagePgm image) long = tt
asks limits state (ReadDistribution name) long = tt
asks limits state other long = absurd (omega (arith, long, answer_fits limits state other (λ h. h)))

-- ---- replies to bodies

spelled_leaves : (limits : LimitsValue) (state : State) (spelled : Result Request BodyFault)
    → 20 ≤ length (answer_spelled limits state spelled).0.body
    → (answer_spelled limits state spelled).1 ≡ state
spelled_leaves limits state (Ok request) long = answer_leaves limits state request long
spelled_leaves limits state (Err fault) long = refl

spelled_asks : (limits : LimitsValue) (state : State) (spelled : Result Request BodyFault)
    → 20 < length (answer_spelled limits state spelled).0.body
    → SpellsLongReply spelled
spelled_asks limits state (Ok request) long = asks limits state request long
spelled_asks limits state (Err fault) long = absurd (omega arith)

body_leaves : (limits : LimitsValue) (state : State) (op : ℕ) (body : List ℕ)
    → 20 ≤ length (answer limits state op body).0.body
    → (answer limits state op body).1 ≡ state
unfolding answer
body_leaves limits state op body long = spelled_leaves limits state (request_of op body) long

body_asks : (limits : LimitsValue) (state : State) (op : ℕ) (body : List ℕ)
    → 20 < length (answer limits state op body).0.body
    → SpellsLongReply (request_of op body)
unfolding answer
body_asks limits state op body long = spelled_asks limits state (request_of op body) long

-- ---- replies to frames

-- a reply frame has 8 bytes before its body
pub reply_size : (r : ReplyFrame) → length (reply_bytes r) ≡ length r.body + 8
reply_size r = omega arith

frame_asks : (limits : LimitsValue) (f : Frame) (old : ℕ → State) (lost : Bool)
    → 20 < length (reply_in (answer limits) old (record { frame = f; lost = lost })).body
    → AsksForLongReply f
frame_asks limits f old true long = absurd (omega arith)
frame_asks limits f old false long = body_asks limits (old f.client) f.op f.body long

frame_leaves : (limits : LimitsValue) (f : Frame) (old : ℕ → State) (lost : Bool) (client : ℕ)
    → 20 ≤ length (reply_in (answer limits) old (record { frame = f; lost = lost })).body
    → state_then (answer limits) old (record { frame = f; lost = lost }) client ≡ old client
frame_leaves limits f old true client long = absurd (omega arith)
frame_leaves limits f old false client long =
    let state =
    λ (b : Bool). cond (b && true) (answer limits (old client) f.op f.body).1 (old client) in
    elim (cases_Bool (f.client == client)) [
      | inl same ↦
          let e : f.client ≡ client = eqb-true f.client client same in
          ap state same
          ∙ subst (λ (c : ℕ). (answer limits (old c) f.op f.body).1 ≡ old c) e
          (body_leaves limits (old f.client) f.op f.body long)
      | inr differ ↦ ap state differ
    ]

pub long_asks : (limits : LimitsValue) (f : Frame) (old new : ℕ → State) (reply : ReplyFrame)
    → IsReply limits f old new reply
    → 28 < length (reply_bytes reply)
    → AsksForLongReply f
long_asks limits f old new reply replied long =
    let size : 20 < length reply.body = omega (arith, long, reply_size reply) in
    frame_asks limits f old replied.lost
    (subst (λ (r : ReplyFrame). 20 < length r.body) replied.said size)

pub long_leaves : (limits : LimitsValue) (f : Frame) (old new : ℕ → State) (reply : ReplyFrame)
    → IsReply limits f old new reply
    → 28 ≤ length (reply_bytes reply)
    → SameStates old new
long_leaves limits f old new reply replied long client =
    let size : 20 ≤ length reply.body = omega (arith, long, reply_size reply) in
    replied.states client
    ∙ frame_leaves limits f old replied.lost client
    (subst (λ (r : ReplyFrame). 20 ≤ length r.body) replied.said size)
