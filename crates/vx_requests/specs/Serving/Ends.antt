-- How `serve` ends: at the end of the stream, or with a fault.
use Rattle.std.specs.Prelude.{◌≡◌, List, [], ◌∷◌, ◌++◌, ℕ, length, Option, Result, Ok, Err, count_by, not, ◌==◌}
use Rattle.std.specs.Io.KnownBytes.{Appends, IsAtEnd}
use Rattle.vx_requests.specs.declared.stream.fault.StreamFault.{StreamFault}
use Rattle.vx_requests.specs.declared.stream.fault.StreamFault.TheVariants.{Truncated, BadLength, WriteFailed}
use Rattle.vx_requests.specs.declared.serving.summary.Summary.{Summary}
use Rattle.vx_requests.specs.Frame.Frames.{ReplyFrame, reply_bytes, joined_replies}
use Rattle.vx_requests.specs.Frame.Reading.{BreaksOff}

-- all replies except the last were written, and a prefix of the last
abbrev pub AppendsMost : Option (List ℕ) → Option (List ℕ) → List ReplyFrame → Type 0
AppendsMost old new replies =
    (earlier : List ReplyFrame) × (last : ReplyFrame) × (front : List ℕ) × (back : List ℕ)
    × (replies ≡ earlier ++ last ∷ [])
    × (reply_bytes last ≡ front ++ back)
    × Appends old new (joined_replies earlier ++ front)

-- `serve` ended with this fault; `rest` has the bytes read after the last whole frame, and `left`
-- has the bytes that remain in the source
abbrev pub EndsBy : StreamFault
    → (rest : List ℕ) (left taken_old taken_new : Option (List ℕ)) (replies : List ReplyFrame)
    → Type 0
EndsBy WriteFailed rest left old new replies = (rest ≡ []) × AppendsMost old new replies
EndsBy e rest left old new replies =
    BreaksOff e rest left × Appends old new (joined_replies replies)

-- `serve` ended at the end of the stream, with each reply written and counted; or it ended with a
-- fault
abbrev pub Ends : Result Summary StreamFault
    → (rest : List ℕ) (left taken_old taken_new : Option (List ℕ)) (replies : List ReplyFrame)
    → Type 0
Ends (Ok s) rest left old new replies =
    (rest ≡ []) × IsAtEnd left × Appends old new (joined_replies replies)
    × (s.requests ≡ length replies) × (s.refused ≡ count_by (λ r. not (r.code == 0)) replies)
Ends (Err e) rest left old new replies = EndsBy e rest left old new replies

-- `serve` succeeded, or failed with Truncated or BadLength
abbrev pub ReadsToARest : Result Summary StreamFault → Type 0
ReadsToARest (Ok s) = Unit {0}
ReadsToARest (Err Truncated) = Unit {0}
ReadsToARest (Err BadLength) = Unit {0}
ReadsToARest (Err e) = ⊥
