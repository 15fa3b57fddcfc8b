-- The effects of filling a buffer from a source, and of writing bytes to a sink.
use Rattle.std.specs.Prelude.{◌≡◌, ℕ, ◌+◌, ◌<◌, ◌≤◌, List, ◌++◌, length, take, Result, Ok, Err, Option, IfErr, OnOk, OnErr}
use Rattle.std.specs.Io.KnownBytes.{Consumes, Appends, IsAtEnd}
use Rattle.vx_requests.specs.Stream.Calls.{failed_calls}
use Rattle.vx_requests.specs.declared.stream.fault.StreamFault.{StreamFault}
use Rattle.vx_requests.specs.declared.stream.fault.StreamFault.TheVariants.{ReadFailed, WriteFailed, ReaderWouldNotEnd}

-- 1 if a read failed, else 0
abbrev pub read_failures : {T : Type 0} → Result T StreamFault → ℕ
read_failures (Ok x) = 0
read_failures (Err ReadFailed) = 1
read_failures (Err e) = 0

-- 1 if a write or a flush failed, else 0
abbrev pub write_failures : {T : Type 0} → Result T StreamFault → ℕ
write_failures (Ok x) = 0
write_failures (Err WriteFailed) = 1
write_failures (Err e) = 0

-- a fault of reading: a read failed, or no read was left in the budget
abbrev pub IsReadFault : StreamFault → Type 0
IsReadFault ReadFailed = Unit {0}
IsReadFault ReaderWouldNotEnd = Unit {0}
IsReadFault e = ⊥

-- each read lowered the budget by one; after ReaderWouldNotEnd the budget is 0
abbrev pub CountsReads : {T : Type 0}
    → (reads_old reads_new budget_old budget_new : ℕ)
    → Result T StreamFault
    → Type 0
CountsReads reads_old reads_new budget_old budget_new result =
    (reads_new + budget_new ≡ reads_old + budget_old)
    × (budget_new ≤ budget_old)
    × IfErr result (λ e. e ≡ ReaderWouldNotEnd → budget_new ≡ 0)

-- `count` bytes were read into the front of the buffer; `count` is below the buffer's length only
-- if the stream has ended
abbrev pub Fills : Option (List ℕ) → Option (List ℕ) → List ℕ → ℕ → Type 0
Fills old new buf count =
    (count ≤ length buf) × Consumes old new (take count buf) × (count < length buf → IsAtEnd new)

-- bytes were read into the front of the buffer, but fewer than it can hold
abbrev pub FillsPart : Option (List ℕ) → Option (List ℕ) → List ℕ → Type 0
FillsPart old new buf = (count : ℕ) × (count < length buf) × Consumes old new (take count buf)

-- the sink took a proper prefix of the bytes
abbrev pub AppendsPart : Option (List ℕ) → Option (List ℕ) → List ℕ → Type 0
AppendsPart old new bytes =
    (front : List ℕ)
    × (rest : List ℕ)
    × (bytes ≡ front ++ rest)
    × (0 < length rest)
    × Appends old new front

-- the sink took a prefix of the bytes
abbrev pub AppendsFront : Option (List ℕ) → Option (List ℕ) → List ℕ → Type 0
AppendsFront old new bytes =
    (front : List ℕ) × (rest : List ℕ) × (bytes ≡ front ++ rest) × Appends old new front

-- ---- writes to a sink; `taken` gives the bytes that the sink took, and `failures` the number of
-- its failed calls

-- all of the bytes were written; or a write failed, and the sink took a proper prefix of the bytes
pub record WritesAll {K T : Type 0} (taken : K → Option (List ℕ)) (failures : K → ℕ)
    (old new : K) (bytes : List ℕ) (result : Result T StreamFault) : Type 0 where
  pub ok : OnOk result (Appends (taken old) (taken new) bytes)
  pub err : OnErr result (AppendsPart (taken old) (taken new) bytes)
  pub fault : IfErr result (λ e. e ≡ WriteFailed)
  pub failed : failures new ≡ failures old + failed_calls result

-- all of the bytes were written and flushed; or a write or the flush failed, and the sink took a
-- prefix of the bytes
pub record Sends {K T : Type 0} (taken : K → Option (List ℕ)) (failures : K → ℕ) (old new : K)
    (bytes : List ℕ) (result : Result T StreamFault) : Type 0 where
  pub ok : OnOk result (Appends (taken old) (taken new) bytes)
  pub err : OnErr result (AppendsFront (taken old) (taken new) bytes)
  pub fault : IfErr result (λ e. e ≡ WriteFailed)
  pub failed : failures new ≡ failures old + failed_calls result
