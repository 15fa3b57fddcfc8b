-- The reply to a frame of a client that the runtime knows under another number.
use Rattle.std.proofs.Common.{◌≡◌, ◌≢◌, ℕ, Bool, true, false, not, ◌&&◌, ◌==◌, cond, List, None, IsSome, Result, Ok, Err, inl, inr, refl, sym, ap, ◌∙◌, subst, eq-eqb, ne_eqb, ◌<◌, length, ◌⊎◌}
use Rattle.std.proofs.lemmas.Bool.{cases_eq}
use Rattle.client_model.specs.Context.{State}
use Rattle.client_model.specs.Limits.{LimitsValue}
use Rattle.client_model.specs.declared.request.Request.{Request}
use Rattle.client_model.specs.declared.request.Request.TheVariants.{OpenContext}
use Rattle.vx_wire.specs.Replies.{Said}
use Rattle.vx_wire.specs.Requests.{request_of}
use Rattle.vx_wire.specs.declared.body_fault.BodyFault.{BodyFault}
use Rattle.vx_requests.specs.Frame.Frames.{Frame, ReplyFrame, frame_of}
use Rattle.vx_requests.specs.Serving.Answer.{answer, answer_spelled}
use Rattle.vx_requests.specs.Serving.Clients.{spelled_frame, reply_to, no_memory, answer_frame, state_then}
use Rattle.vx_requests.specs.Serving.Lost.{MayBeLost, SpellsTaking}
use Rattle.vx_requests.specs.Serving.Turn.{IsReply}

-- a frame changes no state but its client's
pub others_kept : (limits : LimitsValue) (f : Frame) (old new : ℕ → State) (reply : ReplyFrame)
    → IsReply limits f old new reply
    → (other : ℕ) → other ≢ f.client → new other ≡ old other
others_kept limits f old new reply r other differs =
    let apart : (f.client == other) ≡ false = ne_eqb f.client other (λ e. differs (sym e)) in
    r.states other
    ∙ ap
    (λ (b : Bool). cond (b && not r.lost) (answer_frame (answer limits) (old other) f).1
    (old other))
    apart

-- ---- a frame that opens a context

-- only OpenContext gives a context to a client that has none
opening_spelled : (limits : LimitsValue) (spelled : Result Request BodyFault)
    → IsSome (answer_spelled limits None spelled).1
    → SpellsTaking spelled
opening_spelled limits (Ok OpenContext) opened = inr tt
opening_spelled limits (Ok request) opened = absurd cc
opening_spelled limits (Err fault) opened = absurd cc

opening : (limits : LimitsValue) (op : ℕ) (body : List ℕ)
    → IsSome (answer limits None op body).1
    → SpellsTaking (request_of op body)
unfolding answer
opening limits op body opened = opening_spelled limits (request_of op body) opened

-- so a frame that gives a context to a client that had none may be lost
opening_may :
    (limits : LimitsValue) (number op : ℕ) (body : List ℕ) (old new : ℕ → State) (lost : Bool)
    → (lost ≡ true → MayBeLost (frame_of number op body))
    → new number
    ≡ state_then (answer limits) old (record { frame = frame_of number op body; lost = lost })
    number
    → old number ≡ None
    → IsSome (new number)
    → (64 < length body) ⊎ SpellsTaking (request_of op body)
opening_may limits number op body old new true may state none opened = may refl
opening_may limits number op body old new false may state none opened =
    let own : new number ≡ (answer limits (old number) op body).1 =
    state
    ∙ ap (λ (b : Bool). cond (b && true) (answer limits (old number) op body).1 (old number))
    (eq-eqb number number refl) in
    inr
    (opening limits op body
    (subst (λ (s : State). IsSome s)
    (own ∙ ap (λ (s : State). (answer limits s op body).1) none) opened))

pub opened_may :
    (limits : LimitsValue) (number op : ℕ) (body : List ℕ) (old new : ℕ → State)
    (reply : ReplyFrame)
    → IsReply limits (frame_of number op body) old new reply
    → old number ≡ None
    → IsSome (new number)
    → (64 < length body) ⊎ SpellsTaking (request_of op body)
opened_may limits number op body old new reply r none opened =
    opening_may limits number op body old new r.lost r.may (r.states number) none opened

-- ---- the client's own number

module _ (limits : LimitsValue) (number client op : ℕ) (body : List ℕ) where
  -- the reply under the client's own number
  abbrev renamed : ReplyFrame → ReplyFrame
  renamed r = spelled_frame client r.op (record { code = r.code; body = r.body })

  renamed_reply : (lost : Bool) (state : State)
      → renamed
      (cond lost (no_memory (frame_of number op body))
      (reply_to (frame_of number op body) (answer limits state op body).0))
      ≡ cond lost (no_memory (frame_of client op body))
      (reply_to (frame_of client op body) (answer limits state op body).0)
  renamed_reply true state = refl
  renamed_reply false state = refl

  -- `old` and `new` are the states under the runtime's numbers, `before` and `after` those of the
  -- connection's clients
  module _ (old new before after : ℕ → State) (said : Said) (was : before client ≡ old number)
      (is : after client ≡ new number)
      (others : (other : ℕ) → other ≢ client → after other ≡ before other)
      (r : IsReply limits (frame_of number op body) old new (spelled_frame number op said))
    where
      own_state : (other : ℕ)
          → other ≡ client
          → after other
          ≡ state_then (answer limits) before
          (record { frame = frame_of client op body; lost = r.lost }) other
      own_state other same =
          subst
          (λ (c : ℕ). after c ≡ state_then (answer limits) before
          (record { frame = frame_of client op body; lost = r.lost }) c)
          (sym same)
          (is ∙ r.states number
          ∙ ap
          (λ (b : Bool). cond (b && not r.lost) (answer limits (old number) op body).1 (old number))
          (eq-eqb number number refl ∙ sym (eq-eqb client client refl))
          ∙ ap
          (λ (s : State). cond ((client == client) && not r.lost) (answer limits s op body).1 s)
          (sym was))

      other_state : (other : ℕ)
          → other ≢ client
          → after other
          ≡ state_then (answer limits) before
          (record { frame = frame_of client op body; lost = r.lost }) other
      other_state other differs =
          others other differs
          ∙ sym
          (ap
          (λ (b : Bool). cond (b && not r.lost) (answer limits (before other) op body).1
          (before other))
          (ne_eqb client other (λ e. differs (sym e))))

      pub own_reply :
          IsReply limits (frame_of client op body) before after (spelled_frame client op said)
      own_reply = record {
        lost = r.lost;
        may = r.may;
        states =
            λ other. elim (cases_eq other client)
            [ inl same ↦ own_state other same | inr differs ↦ other_state other differs ];
        said = ap renamed r.said ∙ renamed_reply r.lost (old number)
            ∙ ap
            (λ (s : State). cond r.lost (no_memory (frame_of client op body))
            (reply_to (frame_of client op body) (answer limits s op body).0))
            (sym was);
      }
