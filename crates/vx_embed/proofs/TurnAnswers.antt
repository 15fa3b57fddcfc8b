-- From the server's turn to the answer that C gets.
use Rattle.std.proofs.Common.{◌≡◌, ◌≢◌, ℕ, ◌+◌, ◌<◌, ◌≤◌, List, [], ◌∷◌, ◌++◌, Option, Some, Result, Ok, Err, is_ok, false, inr, arith, length, take, sym, ap, ◌∙◌, subst, length-append}
use Rattle.std.proofs.lemmas.List.{take_all}
use Rattle.vx_requests.specs.declared.serving.summary.Summary.{Summary}
use Rattle.vx_requests.specs.declared.stream.fault.StreamFault.{StreamFault}
use Rattle.vx_requests.specs.declared.stream.fault.StreamFault.TheVariants.{ReadFailed, WriteFailed, ReaderWouldNotEnd}
use Rattle.vx_requests.specs.Stream.Transfer.{read_failures, write_failures}
use Rattle.vx_requests.specs.Frame.Frames.{said_length}
use Rattle.vx_requests.specs.Serving.OneFrame.{ServesOneFrame}
use Rattle.vx_requests.specs.Serving.Session.{Session}
use Rattle.client_model.specs.Limits.{LimitsValue}
use Rattle.client_model.specs.Context.{State}
use Rattle.vx_requests.specs.Serving.Turn.{Turn}
use Rattle.connections.specs.Connections.{ConnectionsValue, StaysOpen, states_in}
use Rattle.vx_requests.proofs.LongReplies.{long_leaves}
use Rattle.vx_requests.proofs.OneFrame.{turn_stops, one_session}
use Rattle.vx_requests.proofs.WholeFrames.{said_of_front}
use Rattle.vx_embed.specs.Serves.{Answers, IsOneFrame, Serves}
use Rattle.vx_embed.specs.Status.{status_number}
use Rattle.vx_embed.specs.declared.handle.Handle.{Handle}
use Rattle.vx_embed.specs.declared.status.Status.{Status}
use Rattle.vx_embed.specs.declared.status.Status.TheVariants as status

-- the fault of a turn that the source didn't cause
not_read_failed : (e : StreamFault) → 0 ≡ 0 + read_failures {T = Option ℕ} (Err e) → e ≢ ReadFailed
not_read_failed e none is =
    let one : read_failures {T = Option ℕ} (Err e) ≡ 1 =
    ap (λ x. read_failures {T = Option ℕ} (Err x)) is in
    omega (arith, none, one)

-- the sink counted a failure
counts_failure : (e : StreamFault) (earlier failures : ℕ)
    → e ≡ WriteFailed
    → failures ≡ earlier + write_failures {T = Option ℕ} (Err e)
    → 0 < failures
counts_failure e earlier failures is counted =
    let one : write_failures {T = Option ℕ} (Err e) ≡ 1 =
    ap (λ x. write_failures {T = Option ℕ} (Err x)) is in
    omega (arith, counted, one)

-- the bytes after the names of the buffers
tails : (a a' b b' n : ℕ) (xs ys zs : List ℕ)
    → n ≡ 0
    → a' ∷ b' ∷ xs ≡ (a ∷ b ∷ take n ys) ++ zs
    → xs ≡ zs
tails a a' b b' n xs ys zs none e =
    let rest : a' ∷ b' ∷ xs ≡ a ∷ b ∷ zs = e ∙ ap (λ k. (a ∷ b ∷ take k ys) ++ zs) none in cc

-- a reply was cut short, so the buffer is full and is the front of the reply. The sink's first
-- numbers are the names of the two parts of its buffer, and `n` bytes were taken before
module _ (limits : LimitsValue) (old new : ℕ → State) (front back : List ℕ)
    (left : Option (List ℕ)) (a a' b b' n count earlier failures : ℕ) (before buffer : List ℕ) where
  abbrev Takes-turn : List ℕ → Result (Option ℕ) StreamFault → Type 0
  Takes-turn read result =
      Turn limits (Some read) left (Some (a ∷ b ∷ take n before))
      (Some (a' ∷ b' ∷ take count buffer)) old new result

  pub cut_reply : (result : Result (Option ℕ) StreamFault)
      → IsOneFrame (front ++ back)
      → n ≡ 0
      → Takes-turn (front ++ back) result
      → is_ok result ≡ false
      → 0 ≡ 0 + read_failures result
      → result ≢ Err ReaderWouldNotEnd
      → failures ≡ earlier + write_failures result
      → (0 < failures → count ≡ length buffer)
      → (rest : List ℕ) × ServesOneFrame limits (front ++ back) (buffer ++ rest) old new
  cut_reply (Ok code) framed none turn cut read ends wrote full = absurd cc
  cut_reply (Err fault) (frame, is, e) none turn cut read ends wrote full =
      let (failed, part, rest, now, one) =
      turn_stops limits frame left (a ∷ b ∷ take n before) (a' ∷ b' ∷ take count buffer) old new
      fault is (not_read_failed fault read) (λ x. ends (ap (λ y. Err y) x))
      (subst (λ bytes. Takes-turn bytes (Err fault)) e turn) in
      let all : count ≡ length buffer = full (counts_failure fault earlier failures failed wrote) in
      let whole : part ≡ buffer =
      sym (tails a a' b b' n (take count buffer) before part none now)
      ∙ take_all count buffer (omega (arith, all)) in (
        rest,
        subst (λ l. ServesOneFrame limits (front ++ back) (l ++ rest) old new) whole
            (subst (λ bytes. ServesOneFrame limits bytes (part ++ rest) old new) (sym e) one),
      )

-- a reply that begins with the whole buffer is long, so the states are as before
pub too_short :
    (connection : ℕ) (old new : ConnectionsValue) (front back buffer first second rest : List ℕ)
    (needed : ℕ)
    → buffer ≡ first ++ second
    → 28 ≤ length first + length second
    → needed ≡ said_length buffer + 4 → StaysOpen connection old new
    → ServesOneFrame old.limits (front ++ back) ((first ++ second) ++ rest)
    (states_in old connection) (states_in new connection)
    → Answers connection old new front back buffer needed status.TooShort
too_short connection old new front back buffer first second rest needed same enough says stays
    served =
    let one =
    subst
    (λ l. ServesOneFrame old.limits (front ++ back) (l ++ rest) (states_in old connection)
    (states_in new connection))
    (sym same) served in
    let all : length buffer ≡ length first + length second =
    ap length same ∙ length-append first second in
    let long : 28 ≤ length buffer = omega (arith, all, enough) in
    let size = length-append buffer rest in
    let said : said_length (buffer ++ rest) ≡ said_length buffer =
    said_of_front buffer rest (omega (arith, long)) in
    let reply_long : 28 ≤ length (buffer ++ rest) = omega (arith, size, long) in (
      long_leaves old.limits one.frame (states_in old connection) (states_in new connection)
          one.reply one.replied (subst (λ l. 28 ≤ length l) one.written_is reply_long),
      inr (stays, (buffer ++ rest, one, omega (arith, size), says ∙ ap (λ n. n + 4) (sym said))),
    )

-- a call that ends with Ok is a session of one frame
pub session_of :
    (connection : ℕ) (old new : Handle) (front back buffer : List ℕ) (count : ℕ) (result : Status)
    → Serves connection old new front back buffer count result
    → status_number result ≡ 0
    → (summary : Summary)
    × Session old.world.limits (Some (front ++ back)) (Some []) (Some [])
    (Some (take count buffer)) (states_in old.world connection) (states_in new.world connection)
    (Ok summary)
session_of connection old new front back buffer count status.Ok serves zero =
    one_session old.world.limits (front ++ back) (take count buffer)
    (states_in old.world connection) (states_in new.world connection) serves.1.1.2
session_of connection old new front back buffer count other serves zero =
    absurd (omega (arith, zero))
