-- One frame that is served alone, and a session of one frame.
use Rattle.std.proofs.Common.{◌≡◌, ◌≢◌, ℕ, ◌+◌, length, List, [], ◌∷◌, ◌++◌, Option, Some, None, Ok, Err, inl, inr, arith, refl, sym, ap, ◌∙◌, subst, append-nil, All, true}
use Rattle.vx_requests.proofs.Common.{Frame, ReplyFrame, IsFrame, IsReply, Turn, BreaksOff, Consumes, StreamFault, WriteFailed, said_length, reply_bytes, frame_bytes, frames_bytes, LimitsValue, State, Summary, ReceivedFrame, frames_of, served, reply_in, states_after, answer, MayBeLost, Session}
use Rattle.vx_requests.specs.Frame.Frames.{joined_replies, IsRest}
use Rattle.vx_requests.specs.Serving.OneFrame.{ServesOneFrame}
use Rattle.vx_requests.proofs.Alone.{states_after-push}
use Rattle.vx_requests.specs.declared.stream.fault.StreamFault.TheVariants.{Truncated, BadLength, ReadFailed, ReaderWouldNotEnd}
use Rattle.vx_requests.proofs.OneSplit.{one_rest, same_front, not_rest}
use Rattle.vx_requests.proofs.WholeFrames.{said_of_front, said_of_frame}
use Rattle.vx_requests.proofs.Progress.{started, went_on}
use Rattle.std.proofs.lemmas.List.Elements.{All-cons}

pub one_session : (limits : LimitsValue) (read written : List ℕ) (old new : ℕ → State)
    → ServesOneFrame limits read written old new
    → (summary : Summary)
    × Session limits (Some read) (Some []) (Some []) (Some written) old new (Ok summary)
one_session limits read written old new one =
    let code = one.reply.code in
    let p =
    went_on limits (Some read) (Some read) (Some []) (Some []) (Some []) (Some written) old old
    new 0 0 code (started limits (Some read) (Some []) old) (
      one.frame,
      one.reply,
      one.is_frame,
      one.read_is
          ∙ sym (append-nil (frame_bytes one.frame)),
      one.replied,
      (one.written_is, refl),
    ) in (
      record { requests = 1; refused = _ },
      record {
        marked = p.marked;
        rest = [];
        frames = p.frames;
        lost = p.lost;
        read = p.read ∙ ap (λ l. l ++ []) (sym (append-nil (frames_bytes (frames_of p.marked))));
        ends = (refl, refl, p.wrote, p.requests_are, p.refused_are);
        states = p.states;
      },
    )

-- ---- exactly one frame in the source

-- the frame that was read is the one in the source
served_frame :
    (limits : LimitsValue) (f g : Frame) (left : Option (List ℕ)) (written : List ℕ)
    (old new : ℕ → State) (reply : ReplyFrame)
    → IsFrame f
    → IsFrame g
    → Consumes (Some (frame_bytes f)) left (frame_bytes g)
    → IsReply limits g old new reply
    → written ≡ reply_bytes reply
    → ServesOneFrame limits (frame_bytes f) written old new
served_frame limits f g None written old new reply is is' read replied wrote = absurd read
served_frame limits f g (Some left) written old new reply is is' read replied wrote =
    let same = same_front f g [] left is is' (append-nil (frame_bytes f) ∙ read) in
    record {
      frame = g;
      reply = reply;
      is_frame = is';
      read_is = ap frame_bytes same.0;
      replied = replied;
      written_is = wrote;
    }

-- the stream doesn't end within the frame, and its length is in range
not_broken : (f : Frame) (e : StreamFault) (rest : List ℕ) (left : Option (List ℕ))
    → IsFrame f
    → e ≢ ReadFailed
    → e ≢ ReaderWouldNotEnd
    → Consumes (Some (frame_bytes f)) left rest → BreaksOff e rest left → ⊥
not_broken f e rest None is no_fault ends read breaks = read
not_broken f Truncated rest (Some left) is no_fault ends read breaks =
    let whole : rest ≡ frame_bytes f ++ [] =
    sym (append-nil rest)
    ∙ ap (λ l. rest ++ l) (sym breaks.1)
    ∙ sym read
    ∙ sym (append-nil (frame_bytes f)) in
    not_rest rest f [] (inl breaks.0.1) is whole
not_broken f BadLength rest (Some left) is no_fault ends read breaks =
    let said : said_length rest ≡ length f.body + 3 =
    sym (said_of_front rest left (omega (arith, breaks.0)))
    ∙ ap said_length (sym read)
    ∙ said_of_frame f is in
    let len = is.len in
    breaks.1 (omega (arith, said), omega (arith, said, len))
not_broken f ReadFailed rest (Some left) is no_fault ends read breaks = no_fault refl
not_broken f WriteFailed rest (Some left) is no_fault ends read breaks = breaks
not_broken f ReaderWouldNotEnd rest (Some left) is no_fault ends read breaks = ends refl

pub turn_stops :
    (limits : LimitsValue) (f : Frame) (left : Option (List ℕ)) (start now : List ℕ)
    (old new : ℕ → State) (e : StreamFault)
    → IsFrame f
    → e ≢ ReadFailed
    → e ≢ ReaderWouldNotEnd
    → Turn limits (Some (frame_bytes f)) left (Some start) (Some now) old new (Err e)
    → (e ≡ WriteFailed)
    × (front : List ℕ)
    × (rest : List ℕ)
    × (now ≡ start ++ front)
    × ServesOneFrame limits (frame_bytes f) (front ++ rest) old new
turn_stops limits f left start now old new e is no_fault ends
    (inl (rest, read, breaks, same, wrote)) =
    absurd (not_broken f e rest left is no_fault ends read breaks)
turn_stops limits f left start now old new e is no_fault ends
    (inr (g, reply, is', read, replied, (failed, (front, rest, whole, wrote)))) = (
      failed,
      front,
      rest,
      wrote,
      served_frame limits f g left (front ++ rest) old new reply is is' read replied (sym whole),
    )

-- ---- a session of one frame

-- the only frame that was received
of_one :
    (limits : LimitsValue) (f : Frame) (old new : ℕ → State) (marked : List ReceivedFrame)
    (written : List ℕ)
    → frames_of marked ≡ f ∷ []
    → IsFrame f
    → All (λ m. m.lost ≡ true → MayBeLost m.frame) marked
    → written ≡ joined_replies (served (answer limits) old marked)
    → ((client : ℕ) → new client ≡ states_after (answer limits) old marked client)
    → ServesOneFrame limits (frame_bytes f) written old new
of_one limits f old new [] written one is lost wrote states = absurd cc
of_one limits f old new (m ∷ n ∷ marked) written one is lost wrote states = absurd cc
of_one limits f old new (m ∷ []) written one is lost wrote states =
    let same : m.frame ≡ f = cc in
    record {
      frame = m.frame;
      reply = reply_in (answer limits) old m;
      is_frame = subst IsFrame (sym same) is;
      read_is = ap frame_bytes (sym same);
      replied =
          record {
            lost = m.lost;
            may = lost 0 m (omega arith);
            states = λ client. states client
                ∙ states_after-push (answer limits) old [] m client;
            said = refl;
          };
      written_is = wrote ∙ append-nil _;
    }

pub one_frame :
    (limits : LimitsValue) (f : Frame) (left taken : Option (List ℕ)) (old new : ℕ → State)
    (summary : Summary)
    → IsFrame f
    → Session limits (Some (frame_bytes f)) left (Some []) taken old new (Ok summary)
    → (written : List ℕ)
    × (taken ≡ Some written)
    × ServesOneFrame limits (frame_bytes f) written old new
one_frame limits f None taken old new summary is session = absurd session.read
one_frame limits f (Some left) None old new summary is session = absurd session.ends.2
one_frame limits f (Some left) (Some written) old new summary is session =
    let fs = frames_of session.marked in
    let none : IsRest [] = inl (λ four. absurd (omega arith)) in
    let whole : frames_bytes fs ++ [] ≡ frames_bytes (f ∷ []) ++ [] =
    sym (append-nil (frames_bytes fs ++ []))
    ∙ ap (λ l. (frames_bytes fs ++ []) ++ l) (sym session.ends.1)
    ∙ ap (λ l. (frames_bytes fs ++ l) ++ left) (sym session.ends.0)
    ∙ sym session.read
    ∙ sym (append-nil (frame_bytes f))
    ∙ sym (append-nil (frame_bytes f ++ [])) in
    let one =
    one_rest fs (f ∷ []) [] [] session.frames
    (All-cons IsFrame f [] is (λ k d within. absurd (omega arith))) none none whole in (
      written,
      refl,
      of_one limits f old new session.marked written one.0 is session.lost session.ends.2
          session.states,
    )
