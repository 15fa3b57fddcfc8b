-- The exit status of the program, and its text on standard error.
use Rattle.std.specs.Prelude.{ℕ, List, codes, string_bytes}
use Rattle.vx_base.specs.Code.{code_name}
use Rattle.vx_requests.specs.declared.stream.fault.StreamFault.{StreamFault}
use Rattle.vx_requests.specs.declared.stream.fault.StreamFault.TheVariants.{Truncated, BadLength, ReadFailed, WriteFailed, ReaderWouldNotEnd}
use Rattle.vx_programs.specs.declared.ended.Ended.{Ended}
use Rattle.vx_programs.specs.declared.ended.Ended.TheVariants.{CommandLine, Stream, Refused}

-- the exit status for a fault of the stream
abbrev pub fault_status : StreamFault → ℕ
fault_status Truncated = 3
fault_status BadLength = 3
fault_status ReadFailed = 4
fault_status WriteFailed = 4
fault_status ReaderWouldNotEnd = 3

-- the line on standard error for a fault of the stream
abbrev pub fault_line : StreamFault → List ℕ
fault_line Truncated = codes "truncated"
fault_line BadLength = codes "bad length"
fault_line ReadFailed = codes "read failed"
fault_line WriteFailed = codes "write failed"
fault_line ReaderWouldNotEnd = codes "reader would not end"

-- the exit status: 2 for a refused command line, `fault_status` for a fault of the stream, 5 for
-- `Refused`, whatever its code
abbrev pub ended_status : Ended → ℕ
ended_status (CommandLine text) = 2
ended_status (Stream fault) = fault_status fault
ended_status (Refused code) = 5

-- the text on standard error: for `CommandLine` its text, for `Stream` the `fault_line` of its
-- fault, for `Refused` the name of its code
abbrev pub ended_line : Ended → List ℕ
ended_line (CommandLine text) = string_bytes text
ended_line (Stream fault) = fault_line fault
ended_line (Refused code) = code_name code
