-- How far serve has come, and how it ends.
use Rattle.std.proofs.Common.{◌≡◌, ℕ, ◌+◌, true, cond, not, List, [], ◌∷◌, ◌++◌, Option, Result, Ok, Err, inl, inr, length, arith, refl, sym, ap, ◌∙◌, subst, append-nil, All, count_by, ◌==◌}
use Rattle.vx_requests.proofs.Common.{Consumes, Appends, Appends-nil, Consumes-trans, Appends-trans, map_push, StreamFault, WriteFailed, LimitsValue, State, Summary, ReplyFrame, IsFrame, frame_bytes, reply_bytes, frames_bytes, ReceivedFrame, frames_of, served, reply_in, state_then, states_after, answer, MayBeLost, BreaksOff, ServesFrame, Turn, Session}
use Rattle.std.proofs.KnownBytes.{Consumes-nil}
use Rattle.std.proofs.lemmas.List.{flat_map_more, length_push}
use Rattle.std.proofs.lemmas.List.Elements.{All-push}
use Rattle.std.proofs.lemmas.List.Sums.{sum_by-append}
use Rattle.vx_requests.specs.Frame.Frames.{joined_replies}
use Rattle.vx_requests.specs.Serving.Ends.{EndsBy}
use Rattle.vx_requests.proofs.Alone.{states_after-push, served-push, reply_in-same, state_then-same}

-- some whole frames were read and answered
pub record Progress (limits : LimitsValue)
    (left_old left_now taken_old taken_now : Option (List ℕ)) (old now : ℕ → State)
    (requests refused : ℕ) : Type 0 where
  pub marked : List ReceivedFrame
  pub frames : All IsFrame (frames_of marked)
  pub lost : All (λ m. m.lost ≡ true → MayBeLost m.frame) marked
  pub read : Consumes left_old left_now (frames_bytes (frames_of marked))
  pub wrote : Appends taken_old taken_now (joined_replies (served (answer limits) old marked))
  pub states : (client : ℕ) → now client ≡ states_after (answer limits) old marked client
  pub requests_are : requests ≡ length (served (answer limits) old marked)
  pub refused_are : refused ≡ count_by (λ r. not (r.code == 0)) (served (answer limits) old marked)

pub started : (limits : LimitsValue) (left taken : Option (List ℕ)) (states : ℕ → State)
    → Progress limits left left taken taken states states 0 0
started limits left taken states = record {
  marked = [];
  frames = λ k d lt. absurd (omega arith);
  lost = λ k d lt. absurd (omega arith);
  read = Consumes-nil left;
  wrote = Appends-nil taken;
  states = λ client. refl;
  requests_are = refl;
  refused_are = refl;
}

count_push : (replies : List ReplyFrame) (r : ReplyFrame)
    → count_by (λ x. not (x.code == 0)) (replies ++ r ∷ [])
    ≡ count_by (λ x. not (x.code == 0)) replies + cond (r.code == 0) 0 1
count_push replies r = grind (arith, sum_by-append)

-- what a reader's fault leaves
breaks_ends :
    (e : StreamFault) (rest : List ℕ) (left to u : Option (List ℕ)) (replies : List ReplyFrame)
    → BreaksOff e rest left
    → Appends to u (joined_replies replies)
    → EndsBy e rest left to u replies
breaks_ends WriteFailed rest left to u replies breaks wrote = absurd breaks
breaks_ends e rest left to u replies breaks wrote = (breaks, wrote)

module _ (limits : LimitsValue) (a b c to t u : Option (List ℕ)) (old mid new : ℕ → State) where
  -- the marked frame of a turn
  frames_more :
      {requests refused : ℕ} (p : Progress limits a b to t old mid requests refused)
      (m : ReceivedFrame)
      → IsFrame m.frame
      → All IsFrame (frames_of (p.marked ++ m ∷ []))
  frames_more p m is =
      rw (map_push (λ (x : ReceivedFrame). x.frame) p.marked m)
      (All-push IsFrame (frames_of p.marked) m.frame p.frames is)

  read_more :
      {requests refused : ℕ} (p : Progress limits a b to t old mid requests refused)
      (m : ReceivedFrame)
      → Consumes b c (frame_bytes m.frame)
      → Consumes a c (frames_bytes (frames_of (p.marked ++ m ∷ [])))
  read_more p m read =
      rw (
        map_push (λ (x : ReceivedFrame). x.frame) p.marked m,
        ← flat_map_more frame_bytes [] (frames_of p.marked) m.frame,
      ) (Consumes-trans a b c (frames_bytes (frames_of p.marked)) _ p.read read)

  states_more :
      {requests refused : ℕ} (p : Progress limits a b to t old mid requests refused)
      (m : ReceivedFrame)
      → ((client : ℕ) → new client ≡ state_then (answer limits) mid m client)
      → (client : ℕ) → new client ≡ states_after (answer limits) old (p.marked ++ m ∷ []) client
  states_more p m states client =
      states client
      ∙ state_then-same (answer limits) (states_after (answer limits) old p.marked) mid m client
      p.states
      ∙ sym (states_after-push (answer limits) old p.marked m client)

  served_more :
      {requests refused : ℕ} (p : Progress limits a b to t old mid requests refused)
      (m : ReceivedFrame)
      → served (answer limits) old (p.marked ++ m ∷ [])
      ≡ served (answer limits) old p.marked ++ reply_in (answer limits) mid m ∷ []
  served_more p m =
      served-push (answer limits) old p.marked m
      ∙ ap (λ r. served (answer limits) old p.marked ++ r ∷ [])
      (sym
      (reply_in-same (answer limits) (states_after (answer limits) old p.marked) mid m p.states))

  pub went_on : (requests refused code : ℕ)
      → Progress limits a b to t old mid requests refused
      → ServesFrame limits b c t u mid new (Ok code)
      → Progress limits a c to u old new (requests + 1) (refused + cond (code == 0) 0 1)
  went_on requests refused code p (f, reply, is, read, answered, writes) =
      let m : ReceivedFrame = record { frame = f; lost = answered.lost } in
      let more = served_more p m in
      record {
        marked = p.marked ++ m ∷ [];
        frames = frames_more p m is;
        lost =
            All-push (λ (x : ReceivedFrame). x.lost ≡ true → MayBeLost x.frame) p.marked m
            p.lost answered.may;
        read = read_more p m read;
        wrote =
            rw (
              more,
              ← flat_map_more reply_bytes [] (served (answer limits) old p.marked)
                  (reply_in (answer limits) mid m),
            )
            (Appends-trans to t u (joined_replies (served (answer limits) old p.marked)) _
            p.wrote (subst (λ r. Appends t u (reply_bytes r)) answered.said writes.0));
        states = states_more p m answered.states;
        requests_are = rw (p.requests_are, more, length_push);
        refused_are = rw (p.refused_are, more, count_push, writes.1, answered.said);
      }

  pub broke_off : (requests refused : ℕ) (e : StreamFault)
      → Progress limits a b to t old mid requests refused
      → Turn limits b c t u mid new (Err e)
      → Session limits a c to u old new (Err e)
  broke_off requests refused e p (inl (rest, read, breaks, same, wrote)) = record {
    marked = p.marked;
    rest = rest;
    frames = p.frames;
    lost = p.lost;
    read = Consumes-trans a b c _ rest p.read read;
    ends =
        breaks_ends e rest c to u _ breaks
        (subst (Appends to u) (append-nil _) (Appends-trans to t u _ [] p.wrote wrote));
    states = λ client. same client ∙ p.states client;
  }
  broke_off requests refused e p (inr (f, reply, is, read, answered, writes)) =
      let m : ReceivedFrame = record { frame = f; lost = answered.lost } in
      record {
        marked = p.marked ++ m ∷ [];
        rest = [];
        frames = frames_more p m is;
        lost =
            All-push (λ (x : ReceivedFrame). x.lost ≡ true → MayBeLost x.frame) p.marked m
            p.lost answered.may;
        read = subst (Consumes a c) (sym (append-nil _)) (read_more p m read);
        ends =
            subst
            (λ (f : StreamFault). EndsBy f [] c to u
            (served (answer limits) old (p.marked ++ m ∷ [])))
            (sym writes.0) (
              refl,
              (
                served (answer limits) old p.marked,
                reply_in (answer limits) mid m,
                writes.1.0,
                writes.1.1,
                served_more p m,
                ap reply_bytes (sym answered.said) ∙ writes.1.2,
                Appends-trans to t u _ _ p.wrote writes.1.3,
              ),
            );
        states = states_more p m answered.states;
      }

-- the bytes that are left, under another name
pub left_there :
    (limits : LimitsValue) (a b c to u : Option (List ℕ)) (old new : ℕ → State)
    (result : Result Summary StreamFault)
    → b ≡ c
    → Session limits a b to u old new result → Session limits a c to u old new result
left_there limits a b c to u old new result same did =
    subst (λ left. Session limits a left to u old new result) same did
