-- Bytes that are exactly one frame.
use Rattle.std.proofs.Common.{◌≡◌, ℕ, ◌+◌, ◌≤◌, List, [], ◌∷◌, ◌++◌, arith, length, sym, ap, ◌∙◌, length-append, append-nil}
use Rattle.vx_requests.proofs.Common.{w32, from_be_bytes, Frame, IsFrame, IsLength, said_length, frame_bytes}
use Rattle.std.proofs.lemmas.List.{take-append-le}
use Rattle.vx_requests.proofs.EverySplit.{first_frame, IsBytes}
use Rattle.vx_requests.proofs.OneSplit.{frame_length}

-- the length is in the first part
pub said_of_front : (front back : List ℕ)
    → 4 ≤ length front
    → said_length (front ++ back) ≡ said_length front
said_of_front front back four = ap (from_be_bytes w32) (take-append-le 4 front back four)

frame_size : (f : Frame) → length (frame_bytes f) ≡ length f.body + 7
frame_size f = omega arith

pub said_of_frame : (f : Frame) → IsFrame f → said_length (frame_bytes f) ≡ length f.body + 3
said_of_frame f is = ap said_length (sym (append-nil (frame_bytes f))) ∙ frame_length f [] is

nothing_left : (f : Frame) (bytes later : List ℕ)
    → IsFrame f
    → bytes ≡ frame_bytes f ++ later
    → length bytes ≡ said_length bytes + 4
    → bytes ≡ frame_bytes f
nothing_left f bytes [] is e long = e ∙ append-nil (frame_bytes f)
nothing_left f bytes (b ∷ later) is e long =
    let said : said_length bytes ≡ length f.body + 3 =
    ap said_length e ∙ frame_length f (b ∷ later) is in
    let size : length bytes ≡ length (frame_bytes f) + length (b ∷ later) =
    ap length e ∙ length-append (frame_bytes f) (b ∷ later) in
    absurd (omega (arith, said, size, long, frame_size f))

-- bytes of the length that they say are a frame
pub makes_frame : (front back : List ℕ)
    → IsBytes (front ++ back)
    → 4 ≤ length front
    → IsLength (said_length front)
    → length front + length back ≡ said_length front + 4
    → (frame : Frame) × IsFrame frame × (front ++ back ≡ frame_bytes frame)
makes_frame front back bytes four ok long =
    let said = said_of_front front back four in
    let size = length-append front back in
    let all : length (front ++ back) ≡ said_length (front ++ back) + 4 =
    omega (arith, said, size, long) in
    let (f, later, is, e, fewer, more) =
    first_frame (front ++ back) bytes (omega (arith, size, four)) (
      omega (arith, said, ok.0),
      omega (arith, said, ok.1),
    ) (omega (arith, all)) in
    (f, is, nothing_left f (front ++ back) later is e all)

-- and a frame has the length that it says
pub frame_says : (front back : List ℕ) (f : Frame)
    → IsFrame f
    → front ++ back ≡ frame_bytes f
    → 4 ≤ length front
    → IsLength (said_length front) × (length front + length back ≡ said_length front + 4)
frame_says front back f is e four =
    let said : said_length front ≡ length f.body + 3 =
    sym (said_of_front front back four) ∙ ap said_length e ∙ said_of_frame f is in
    let size : length front + length back ≡ length f.body + 7 =
    sym (length-append front back) ∙ ap length e ∙ frame_size f in
    let len = is.len in
    ((omega (arith, said), omega (arith, said, len)), omega (arith, said, size))
