-- The replies to one connection's frames, in a history of any connections.
use Rattle.std.proofs.Common.{◌≡◌, ◌≢◌, ℕ, Bool, true, false, cond, ◌==◌, List, [], ◌∷◌, ◌++◌, None, All, refl, sym, ap, ◌∙◌, subst, inl, inr, eq-eqb, ne_eqb, append-nil, append_assoc}
use Rattle.std.proofs.lemmas.Bool.{cases_eq}
use Rattle.std.proofs.lemmas.List.Elements.{All-cons, All-nil}
use Rattle.client_model.specs.Context.{State}
use Rattle.client_model.specs.Limits.{LimitsValue}
use Rattle.vx_requests.specs.Frame.Frames.{ReplyFrame}
use Rattle.vx_requests.specs.Serving.Answer.{answer}
use Rattle.vx_requests.specs.Serving.Clients.{ReceivedFrame, reply_in, state_then, states_after, served_after}
use Rattle.vx_requests.specs.Serving.Lost.{MayBeLost}
use Rattle.vx_requests.proofs.Alone.{reply_in-same, state_then-same, states_after-push}
use Rattle.connections.specs.Connections.{ConnectionsValue, is_open, states_in, LeavesOthers, Answers}
use Rattle.connections.specs.History.{Event, History, NeverCloses, received_of, replies_of}
use Rattle.connections.specs.History.Event.{Connected, Received, Disconnected}

-- no client has a context
abbrev pub no_contexts : ℕ → State
no_contexts client = None

module _ (limits : LimitsValue) (connection : ℕ) where
  -- an open connection, after these frames of its own
  pub record IsAfter (before : List ReceivedFrame) (v : ConnectionsValue) : Type 0 where
    pub limits_are : v.limits ≡ limits
    pub opened : is_open v connection ≡ true
    pub states : (client : ℕ)
        → states_in v connection client ≡ states_after (answer limits) no_contexts before client

  -- the replies to the connection's further frames are those of a server of its own
  pub record GoesOn (before : List ReceivedFrame) (events : List Event) (new : ConnectionsValue)
      : Type 0 where
    pub replies :
        replies_of connection events
        ≡ served_after (answer limits) no_contexts before (received_of connection events)
    pub states : (client : ℕ)
        → states_in new connection client
        ≡ states_after (answer limits) no_contexts (before ++ received_of connection events) client
    pub lost : All (λ m. m.lost ≡ true → MayBeLost m.frame) (received_of connection events)

  -- what happens to another connection leaves this one as it is
  after_other : (other : ℕ) (before : List ReceivedFrame) (old new : ConnectionsValue)
      → connection ≢ other
      → LeavesOthers other old new
      → IsAfter before old
      → IsAfter before new
  after_other other before old new differs leaves is = record {
    limits_are = leaves.limits ∙ is.limits_are;
    opened = leaves.still_open connection differs ∙ is.opened;
    states = λ client. leaves.states connection differs client ∙ is.states client;
  }

  -- a frame of this connection
  module _ (before : List ReceivedFrame) (old new : ConnectionsValue) (m : ReceivedFrame)
      (reply : ReplyFrame) (is : IsAfter before old) (a : Answers connection m reply old new) where
    after_own : IsAfter (before ++ m ∷ []) new
    after_own = record {
      limits_are = a.stays.others.limits ∙ is.limits_are;
      opened = a.stays.opened;
      states = λ client.
          a.states client
          ∙ ap (λ (l : LimitsValue). state_then (answer l) (states_in old connection) m client)
          is.limits_are
          ∙ state_then-same (answer limits) (states_after (answer limits) no_contexts before)
          (states_in old connection) m client is.states
          ∙ sym (states_after-push (answer limits) no_contexts before m client);
    }

    own_said : reply ≡ reply_in (answer limits) (states_after (answer limits) no_contexts before) m
    own_said =
        a.said
        ∙ ap (λ (l : LimitsValue). reply_in (answer l) (states_in old connection) m) is.limits_are
        ∙ reply_in-same (answer limits) (states_after (answer limits) no_contexts before)
        (states_in old connection) m is.states

    -- and the frames after it
    own_first : (events : List Event) (last : ConnectionsValue)
        → GoesOn (before ++ m ∷ []) events last
        → GoesOn before (Received connection m reply ∷ events) last
    own_first events last on =
        let here : (connection == connection) ≡ true = eq-eqb connection connection refl in
        let frames :
        received_of connection (Received connection m reply ∷ events)
        ≡ m ∷ received_of connection events =
        ap
        (λ (b : Bool). cond b (m ∷ received_of connection events) (received_of connection events))
        here in
        let lost :
        All (λ (x : ReceivedFrame). x.lost ≡ true → MayBeLost x.frame)
        (m ∷ received_of connection events) =
        All-cons (λ (x : ReceivedFrame). x.lost ≡ true → MayBeLost x.frame) m
        (received_of connection events) a.may on.lost in
        record {
          replies =
              ap
              (λ (b : Bool). cond b (reply ∷ replies_of connection events)
              (replies_of connection events))
              here
              ∙ ap (λ (r : ReplyFrame). r ∷ replies_of connection events) own_said
              ∙ ap
              (λ (rs : List ReplyFrame). reply_in (answer limits)
              (states_after (answer limits) no_contexts before) m ∷ rs)
              on.replies
              ∙ sym
              (ap
              (λ (ms : List ReceivedFrame). served_after (answer limits) no_contexts before ms)
              frames);
          states = λ client.
              on.states client
              ∙ ap
              (λ (ms : List ReceivedFrame). states_after (answer limits) no_contexts ms client)
              (append_assoc before (m ∷ []) (received_of connection events))
              ∙ sym
              (ap
              (λ (ms : List ReceivedFrame). states_after (answer limits) no_contexts
              (before ++ ms) client)
              frames);
          lost = rw frames lost;
        }

  -- a frame of another connection, and the frames after it
  other_first :
      (other : ℕ) (before : List ReceivedFrame) (m : ReceivedFrame) (reply : ReplyFrame)
      (events : List Event) (last : ConnectionsValue)
      → connection ≢ other
      → GoesOn before events last → GoesOn before (Received other m reply ∷ events) last
  other_first other before m reply events last differs on =
      let apart : (other == connection) ≡ false = ne_eqb other connection (λ e. differs (sym e)) in
      let frames :
      received_of connection (Received other m reply ∷ events) ≡ received_of connection events =
      ap
      (λ (b : Bool). cond b (m ∷ received_of connection events) (received_of connection events))
      apart in
      record {
        replies =
            ap
            (λ (b : Bool). cond b (reply ∷ replies_of connection events)
            (replies_of connection events))
            apart
            ∙ on.replies
            ∙ sym
            (ap
            (λ (ms : List ReceivedFrame). served_after (answer limits) no_contexts before ms)
            frames);
        states =
            λ client. on.states client
            ∙ sym
            (ap
            (λ (ms : List ReceivedFrame). states_after (answer limits) no_contexts
            (before ++ ms) client)
            frames);
        lost = rw frames on.lost;
      }

  open_differs : (other : ℕ) (v : ConnectionsValue)
      → is_open v connection ≡ true
      → is_open v other ≡ false
      → connection ≢ other
  open_differs other v opened free same =
      let there : is_open v other ≡ true = ap (λ (c : ℕ). is_open v c) (sym same) ∙ opened in
      let both : true ≡ false = sym there ∙ free in
      cc

  unclosed_differs : (other : ℕ) → (other == connection) ≡ false → connection ≢ other
  unclosed_differs other apart same =
      let both : true ≡ false = sym (eq-eqb other connection (sym same)) ∙ apart in
      cc

  pub goes_on : (before : List ReceivedFrame) (events : List Event) (old new : ConnectionsValue)
      → IsAfter before old
      → History old events new
      → NeverCloses connection events
      → GoesOn before events new
  goes_on before [] old new is history never = record {
    replies = refl;
    states = λ client.
        ap (λ (v : ConnectionsValue). states_in v connection client) history ∙ is.states client
        ∙ sym
        (ap (λ (ms : List ReceivedFrame). states_after (answer limits) no_contexts ms client)
        (append-nil before));
    lost = All-nil (λ m. m.lost ≡ true → MayBeLost m.frame);
  }
  goes_on before (Connected other ∷ events) old new is (next, opens, rest) never =
      let on =
      goes_on before events next new
      (after_other other before old next (open_differs other old is.opened opens.was_free)
      opens.others is)
      rest never.1 in
      record { replies = on.replies; states = on.states; lost = on.lost }
  goes_on before (Disconnected other ∷ events) old new is (next, closes, rest) never =
      let on =
      goes_on before events next new
      (after_other other before old next (unclosed_differs other never.0) closes.others is) rest
      never.1 in
      record { replies = on.replies; states = on.states; lost = on.lost }
  goes_on before (Received other m reply ∷ events) old new is (next, answered, rest) never =
      elim (cases_eq connection other) [
        | inl same ↦
            let own : Answers connection m reply old next =
            subst (λ (x : ℕ). Answers x m reply old next) (sym same) answered in
            let on =
            goes_on (before ++ m ∷ []) events next new
            (after_own before old next m reply is own) rest never.1 in
            subst (λ (x : ℕ). GoesOn before (Received x m reply ∷ events) new) same
            (own_first before old next m reply is own events new on)
        | inr differs ↦
            other_first other before m reply events new differs
            (goes_on before events next new
            (after_other other before old next differs answered.stays.others is) rest never.1)
      ]
