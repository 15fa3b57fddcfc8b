-- All bytes are whole frames and a rest.
use Rattle.std.proofs.Common.{◌≡◌, ℕ, ◌+◌, ◌-◌, ◌<◌, ◌≤◌, zero, suc, List, [], ◌∷◌, ◌++◌, ◌⊎◌, inl, inr, arith, length, take, drop, get_or, refl, sym, ap, ◌∙◌, append_assoc, take-append-drop, length-drop, length-take-le, le_refl, All}
use Rattle.vx_requests.proofs.Common.{w16, w32, to_be_bytes, from_be_bytes, All-drop, All-take, be_bytes_2, be_bytes_4, Frame, IsFrame, IsLength, IsRest, Splits, said_length, frame_bytes, frames_bytes}
use Rattle.std.proofs.lemmas.List.Elements.{All-cons}

abbrev pub IsBytes : List ℕ → Type 0
IsBytes stream = All (λ byte. byte < 256) stream

abbrev HasSplit : List ℕ → Type 0
HasSplit stream = (frames : List Frame) × (rest : List ℕ) × Splits stream frames rest

-- all bytes are a rest
only_rest : (stream : List ℕ) → IsRest stream → HasSplit stream
only_rest stream is =
    ([], stream, record { whole = refl; each = λ k d within. absurd (omega arith); rest_is = is })

-- a frame before others
one_more : (f : Frame) (stream later : List ℕ)
    → IsFrame f
    → stream ≡ frame_bytes f ++ later
    → HasSplit later
    → HasSplit stream
one_more f stream later is e (frames, rest, split) = (
  f ∷ frames,
  rest,
  record {
    whole =
        e
        ∙ ap (λ l. frame_bytes f ++ l) split.whole
        ∙ sym (append_assoc (frame_bytes f) (frames_bytes frames) rest);
    each = All-cons IsFrame f frames is split.each;
    rest_is = split.rest_is;
  },
)

-- each byte, and the 0 that is read beyond the last
each_byte : (bytes : List ℕ) → IsBytes bytes → (i : ℕ) → get_or bytes i 0 < 256
each_byte [] are i = omega arith
each_byte (b ∷ bytes) are zero = are 0 0 (omega arith)
each_byte (b ∷ bytes) are (suc i) = each_byte bytes (λ k d within. are (suc k) d (omega arith)) i

-- the frame at the front, if the bytes begin with a length in range and are long enough
pub first_frame : (stream : List ℕ)
    → IsBytes stream
    → 4 ≤ length stream
    → IsLength (said_length stream)
    → said_length stream + 4 ≤ length stream
    → (f : Frame)
    × (later : List ℕ)
    × IsFrame f
    × (stream ≡ frame_bytes f ++ later)
    × (length later < length stream)
    × IsBytes later
first_frame (a ∷ b ∷ c ∷ d ∷ e ∷ g ∷ op ∷ tail) bytes four ok whole =
    let said : ℕ = from_be_bytes w32 (a ∷ b ∷ c ∷ d ∷ []) in
    let client : ℕ = from_be_bytes w16 (e ∷ g ∷ []) in
    let body : List ℕ = take (said - 3) tail in
    let later : List ℕ = drop (said - 3) tail in
    let byte = each_byte (a ∷ b ∷ c ∷ d ∷ e ∷ g ∷ op ∷ tail) bytes in
    let size : length body ≡ said - 3 =
    length-take-le (said - 3) tail (omega (arith, ok.0, whole)) in
    let long : length body + 3 ≡ said = omega (arith, ok.0, size) in
    let front : to_be_bytes w32 (length body + 3) ≡ a ∷ b ∷ c ∷ d ∷ [] =
    be_bytes_4 (a ∷ b ∷ c ∷ d ∷ []) (length body + 3) refl
    (each_byte (a ∷ b ∷ c ∷ d ∷ [])
    (All-take (λ x. x < 256) 4 (a ∷ b ∷ c ∷ d ∷ e ∷ g ∷ op ∷ tail) bytes))
    long in
    let sender : to_be_bytes w16 client ≡ e ∷ g ∷ [] =
    be_bytes_2 (e ∷ g ∷ []) client refl
    (each_byte (e ∷ g ∷ [])
    (All-take (λ x. x < 256) 2 (e ∷ g ∷ op ∷ tail)
    (All-drop (λ x. x < 256) 4 (a ∷ b ∷ c ∷ d ∷ e ∷ g ∷ op ∷ tail) bytes)))
    refl in
    let rest : body ++ later ≡ tail = take-append-drop (said - 3) tail in
    let tail_bytes : IsBytes tail =
    All-drop (λ x. x < 256) 7 (a ∷ b ∷ c ∷ d ∷ e ∷ g ∷ op ∷ tail) bytes in
    let whole_frame :
    (to_be_bytes w32 (length body + 3) ++ (to_be_bytes w16 client ++ op ∷ body)) ++ later
    ≡ a ∷ b ∷ c ∷ d ∷ e ∷ g ∷ op ∷ tail =
    ap (λ l. (l ++ (to_be_bytes w16 client ++ op ∷ body)) ++ later) front
    ∙ ap (λ l. ((a ∷ b ∷ c ∷ d ∷ []) ++ (l ++ op ∷ body)) ++ later) sender
    ∙ ap (λ l. a ∷ b ∷ c ∷ d ∷ e ∷ g ∷ op ∷ l) rest in (
      record { client = client; op = op; body = body },
      later,
      record {
        client = omega (arith, byte 4, byte 5);
        op = byte 6;
        bytes = All-take (λ x. x < 256)
            (said - 3) tail tail_bytes;
        len = omega (arith, ok.1, long);
      },
      sym whole_frame,
      omega (arith, length-drop (said - 3) tail),
      All-drop (λ x. x < 256) (said - 3) tail tail_bytes,
    )
first_frame stream bytes four ok whole = absurd (omega arith)

-- a rest, or a whole frame and what follows
rest_or_frame : (long said : ℕ)
    → ((4 ≤ long → IsLength said × (long < said + 4)) ⊎ ((4 ≤ long) × (IsLength said → ⊥)))
    ⊎ ((4 ≤ long) × IsLength said × (said + 4 ≤ long))
rest_or_frame long said = grind arith

-- by the number of bytes that are left
split_within : (n : ℕ) (stream : List ℕ) → length stream ≤ n → IsBytes stream → HasSplit stream
split_within zero stream fits bytes = only_rest stream (inl (λ four. absurd (omega arith)))
split_within (suc n) stream fits bytes =
    elim (rest_or_frame (length stream) (said_length stream)) [
      | inl is ↦ only_rest stream is
      | inr stands ↦
          let (f, later, is, e, fewer, more) =
          first_frame stream bytes stands.0 stands.1 stands.2 in
          one_more f stream later is e (split_within n later (omega arith) more)
    ]

pub every_split : (stream : List ℕ) → IsBytes stream → HasSplit stream
every_split stream bytes = split_within (length stream) stream (le_refl _) bytes
