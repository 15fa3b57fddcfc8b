-- One more frame, and what each client gets.
use Rattle.std.proofs.Common.{◌≡◌, ℕ, true, false, cond, suc, List, [], ◌∷◌, ◌++◌, length, arith, refl, ap, append_assoc, append-nil, map, inl, inr, eq-eqb, All, ◌==◌, eqb-true}
use Rattle.vx_requests.proofs.Common.{map_push, cases_Bool, Frame, ReplyFrame, ReceivedFrame, frames_of, is_kept_of, mine, answer_frame, after, reply_in, state_then, states_after, served, Said}
use Rattle.std.proofs.lemmas.List.Elements.{filter-append}
use Rattle.vx_requests.specs.Serving.Clients.{sent_to, kept_replies, alone, served_after}

-- a frame at the end is its client's, if it was kept
pub mine-push : (client : ℕ) (marked : List ReceivedFrame) (m : ReceivedFrame)
    → mine client (marked ++ m ∷ [])
    ≡ cond (is_kept_of client m) (mine client marked ++ m.frame ∷ []) (mine client marked)
mine-push client marked m = grind (arith, filter-append, map_push, append-nil)

-- a kept frame is its client's, and isn't lost
kept_is : (client : ℕ) (m : ReceivedFrame)
    → is_kept_of client m ≡ true
    → (m.frame.client ≡ client) × (m.lost ≡ false)
kept_is client m kept = grind (arith, eqb-true)

kept_of : (client : ℕ) (m : ReceivedFrame)
    → m.frame.client ≡ client
    → m.lost ≡ false
    → is_kept_of client m ≡ true
kept_of client m same kept = grind (arith, eq-eqb)

abbrev AllKept : ℕ → List ReceivedFrame → Type 0
AllKept client marked = All (λ m. (m.frame.client ≡ client) × (m.lost ≡ false)) marked

-- where all frames are kept frames of the client, they are its kept frames
mine-all : (client : ℕ) (marked : List ReceivedFrame)
    → AllKept client marked
    → mine client marked ≡ frames_of marked
mine-all client [] each = refl
mine-all client (m ∷ marked) each =
    let first = each 0 m (omega arith) in
    rw (
      kept_of client m first.0 first.1,
      mine-all client marked (λ k d within. each (suc k) d (omega arith)),
    )

-- and all replies are to kept frames
kept_replies-all : (client : ℕ) (marked : List ReceivedFrame) (replies : List ReplyFrame)
    → AllKept client marked
    → length replies ≡ length marked
    → kept_replies client marked replies ≡ replies
kept_replies-all client [] [] each long = refl
kept_replies-all client [] (r ∷ replies) each long = cc
kept_replies-all client (m ∷ marked) [] each long = cc
kept_replies-all client (m ∷ marked) (r ∷ replies) each long =
    let first = each 0 m (omega arith) in
    rw (
      kept_of client m first.0 first.1,
      kept_replies-all client marked replies (λ k d within. each (suc k) d (omega arith))
          (omega arith),
    )

-- a client's kept frames all go to its own server
mine-sent : (server : ℕ → ℕ) (client : ℕ) (marked : List ReceivedFrame)
    → mine client (sent_to server (server client) marked) ≡ mine client marked
mine-sent server client [] = refl
mine-sent server client (m ∷ marked) =
    elim (cases_Bool (is_kept_of client m)) [
      | inl kept ↦
          rw (
            eq-eqb (server m.frame.client) (server client) (ap server (kept_is client m kept).0),
            kept,
            mine-sent server client marked,
          )
      | inr other ↦ elim (cases_Bool (server m.frame.client == server client)) [
        | inl its ↦ rw (its, other, mine-sent server client marked)
        | inr not_its ↦ rw (not_its, other, mine-sent server client marked)
      ]
    ]

module _ {S : Type 0} (answer : S → ℕ → List ℕ → Said × S) where
  pub after-push : (state : S) (frames : List Frame) (f : Frame)
      → after answer state (frames ++ f ∷ [])
      ≡ (answer_frame answer (after answer state frames) f).1
  after-push state [] f = refl
  after-push state (g ∷ frames) f = after-push (answer_frame answer state g).1 frames f

  pub states_after-push :
      (start : ℕ → S) (marked : List ReceivedFrame) (m : ReceivedFrame) (client : ℕ)
      → states_after answer start (marked ++ m ∷ []) client
      ≡ state_then answer (states_after answer start marked) m client
  states_after-push start marked m client =
      grind (
        arith,
        mine-push client marked m,
        after-push (start client) (mine client marked) m.frame,
      )

  served_after-push : (start : ℕ → S) (before marked : List ReceivedFrame) (m : ReceivedFrame)
      → served_after answer start before (marked ++ m ∷ [])
      ≡ served_after answer start before marked
      ++ reply_in answer (states_after answer start (before ++ marked)) m
      ∷ []
  served_after-push start before [] m = rw append-nil
  served_after-push start before (x ∷ marked) m =
      rw (served_after-push start (before ++ x ∷ []) marked m, append_assoc)

  pub served-push : (start : ℕ → S) (marked : List ReceivedFrame) (m : ReceivedFrame)
      → served answer start (marked ++ m ∷ [])
      ≡ served answer start marked ++ reply_in answer (states_after answer start marked) m ∷ []
  served-push start marked m = served_after-push start [] marked m

  -- only the states of the clients matter
  pub reply_in-same : (old new : ℕ → S) (m : ReceivedFrame)
      → ((client : ℕ) → new client ≡ old client)
      → reply_in answer new m ≡ reply_in answer old m
  reply_in-same old new m same = rw (same m.frame.client)

  pub state_then-same : (old new : ℕ → S) (m : ReceivedFrame) (client : ℕ)
      → ((client : ℕ) → new client ≡ old client)
      → state_then answer new m client ≡ state_then answer old m client
  state_then-same old new m client same = rw (same client)

  pub length-served_after : (start : ℕ → S) (before marked : List ReceivedFrame)
      → length (served_after answer start before marked) ≡ length marked
  length-served_after start before [] = refl
  length-served_after start before (m ∷ marked) =
      ap suc (length-served_after start (before ++ m ∷ []) marked)

  -- a client's kept replies, after other frames
  pub each_alone_after : (start : ℕ → S) (before marked : List ReceivedFrame) (client : ℕ)
      → kept_replies client marked (served_after answer start before marked)
      ≡ alone answer (states_after answer start before client) (mine client marked)
  each_alone_after start before [] client = refl
  each_alone_after start before (m ∷ marked) client =
      let rest = each_alone_after start (before ++ m ∷ []) marked client in
      let next = states_after-push start before m client in
      elim (cases_Bool (is_kept_of client m)) [
        | inl kept ↦ let of = kept_is client m kept in rw (rest, next, kept, of.1, of.0)
        | inr other ↦ rw (rest, next, other)
      ]

  pub each_alone : (start : ℕ → S) (marked : List ReceivedFrame) (client : ℕ)
      → kept_replies client marked (served answer start marked)
      ≡ alone answer (start client) (mine client marked)
  each_alone start marked client = each_alone_after start [] marked client

  -- where all frames are kept frames of one client
  pub one_client : (start : ℕ → S) (marked : List ReceivedFrame) (client : ℕ)
      → All (λ m. (m.frame.client ≡ client) × (m.lost ≡ false)) marked
      → served answer start marked ≡ alone answer (start client) (frames_of marked)
  one_client start marked client each =
      rw (
        ← kept_replies-all client marked (served answer start marked) each
            (length-served_after start [] marked),
        each_alone start marked client,
        mine-all client marked each,
      )

  pub isolated : (start other : ℕ → S) (marked others : List ReceivedFrame) (client : ℕ)
      → start client ≡ other client
      → mine client marked ≡ mine client others
      → kept_replies client marked (served answer start marked)
      ≡ kept_replies client others (served answer other others)
  isolated start other marked others client same agree =
      rw (each_alone start marked client, each_alone other others client, same, agree)

  -- a client of one of several servers
  pub over_servers : (start : ℕ → S) (server : ℕ → ℕ) (marked : List ReceivedFrame) (client : ℕ)
      → kept_replies client (sent_to server (server client) marked)
      (served answer start (sent_to server (server client) marked))
      ≡ kept_replies client marked (served answer start marked)
  over_servers start server marked client =
      isolated start start (sent_to server (server client) marked) marked client refl
      (mine-sent server client marked)

  -- where the model never says 1, a lost frame shows
  pub lost_shows_after :
      ((state : S) (op : ℕ) (body : List ℕ) → ((answer state op body).0.code == 1) ≡ false)
      → (start : ℕ → S) (before marked : List ReceivedFrame)
      → map (λ (r : ReplyFrame). r.code == 1) (served_after answer start before marked)
      ≡ map (λ (m : ReceivedFrame). m.lost) marked
  lost_shows_after never start before [] = refl
  lost_shows_after never start before (m ∷ marked) =
      grind (
        arith,
        lost_shows_after never start (before ++ m ∷ []) marked,
        never (states_after answer start before m.frame.client) m.frame.op m.frame.body,
      )
