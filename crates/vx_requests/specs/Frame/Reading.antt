-- The effects of reading the parts of a frame.
use Rattle.std.specs.Prelude.{◌≡◌, ℕ, ℤ, ◌+◌, ◌*◌, ◌<◌, ◌≤◌, ◌^◌, List, [], length, All, Option, Some, None, Result, Ok, Err, ⊤, OnOk, IfErr}
use Rattle.std.specs.Int.{w32, to_be_bytes}
use Rattle.std.specs.Io.KnownBytes.{Consumes, IsAtEnd}
use Rattle.vx_base.specs.declared.format.Format.{Format}
use Rattle.vx_base.specs.Sample.{sample_bytes}
use Rattle.vx_wire.specs.Samples.{decoded_samples}
use Rattle.vx_requests.specs.declared.stream.fault.StreamFault.{StreamFault}
use Rattle.vx_requests.specs.declared.stream.fault.StreamFault.TheVariants.{Truncated, BadLength, ReadFailed, WriteFailed, ReaderWouldNotEnd}
use Rattle.vx_requests.specs.declared.frame.reader.Reader.{Reader}
use Rattle.vx_requests.specs.Stream.Transfer.{read_failures, CountsReads}
use Rattle.vx_requests.specs.Frame.Frames.{IsBegun, IsTruncated, IsLength, said_length}

-- ---- the bytes that were read

-- reading stopped with this fault, within a frame; after Truncated, no bytes are left in the source
abbrev pub BreaksIn : StreamFault → Option (List ℕ) → Type 0
BreaksIn Truncated left = IsAtEnd left
BreaksIn ReadFailed left = Unit {0}
BreaksIn ReaderWouldNotEnd left = Unit {0}
BreaksIn e left = ⊥

-- reading stopped with this fault; `rest` has the bytes read after the last whole frame, and `left`
-- has the bytes that remain in the source
abbrev pub BreaksOff : StreamFault → (rest : List ℕ) (left : Option (List ℕ)) → Type 0
BreaksOff Truncated rest left = IsTruncated rest × IsAtEnd left
BreaksOff BadLength rest left = (length rest ≡ 4) × (IsLength (said_length rest) → ⊥)
BreaksOff ReadFailed rest left = IsBegun rest
BreaksOff WriteFailed rest left = ⊥
BreaksOff ReaderWouldNotEnd rest left = IsBegun rest

-- fewer than `len` bytes of a frame were read, because of this fault
abbrev pub ReadsPart : Option (List ℕ) → Option (List ℕ) → ℕ → StreamFault → Type 0
ReadsPart old new len e =
    (part : List ℕ) × Consumes old new part × (length part < len) × BreaksIn e new

-- `len` bytes were read
abbrev pub ReadsSome : Option (List ℕ) → Option (List ℕ) → ℕ → Type 0
ReadsSome old new len =
    (bytes : List ℕ) × Consumes old new bytes × (length bytes ≡ len) × All (λ b. b < 2 ^ 8) bytes

-- the bytes of these samples were read
abbrev pub ReadsSamples : Option (List ℕ) → Option (List ℕ) → Format → List ℤ → Type 0
ReadsSamples old new format samples =
    (bytes : List ℕ)
    × Consumes old new bytes
    × (length bytes ≡ length samples * sample_bytes format)
    × All (λ b. b < 2 ^ 8) bytes
    × (samples ≡ decoded_samples format (length samples) bytes)

-- the length of the next frame was read, the stream had ended, or reading stopped with a fault
abbrev pub ReadsLength : Option (List ℕ) → Option (List ℕ) → Result (Option ℕ) StreamFault → Type 0
ReadsLength old new (Ok None) = Consumes old new [] × IsAtEnd new
ReadsLength old new (Ok (Some len)) = IsLength len × Consumes old new (to_be_bytes w32 len)
ReadsLength old new (Err e) = (rest : List ℕ) × Consumes old new rest × BreaksOff e rest new

-- ---- the number of reads: `reads` and `failures` are the counters of a source

-- the counters can't overflow within the budget of reads
pub record CanRead {S : Type 0} (reads failures : S → ℕ) (r : Reader S) : Type 0 where
  pub reads_fit : reads r.source.now + r.budget < 2 ^ 63
  pub failures_fit : failures r.source.now < 2 ^ 62

-- each read of the source lowered the budget by one, and each failure was counted
pub record KeepsCount {S T : Type 0} (reads failures : S → ℕ) (old new : Reader S)
    (result : Result T StreamFault) : Type 0 where
  pub source : new.source.ghost_name ≡ old.source.ghost_name
  pub counted :
      CountsReads (reads old.source.now) (reads new.source.now) old.budget new.budget result
  pub failed : failures new.source.now ≡ failures old.source.now + read_failures result

-- the samples were read, in this format; or reading stopped before all bytes of the samples were
-- read. There was at most one read for each byte
pub record ReadsOver {S : Type 0} (left : S → Option (List ℕ)) (reads failures : S → ℕ)
    (old new : Reader S) (format : Format) (samples : List ℤ) (result : Result ⊤ StreamFault) : Type
    0 where
  pub ok : OnOk result (ReadsSamples (left old.source.now) (left new.source.now) format samples)
  pub err :
      IfErr result
      (ReadsPart (left old.source.now) (left new.source.now) (length samples * sample_bytes format))
  pub counted : KeepsCount reads failures old new result
  pub sparing : reads new.source.now ≤ reads old.source.now + length samples * sample_bytes format
