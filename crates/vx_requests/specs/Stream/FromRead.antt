-- The parts of a source over a reader.
use Rattle.vx_requests.specs.declared.stream.from_read.FromRead.{FromRead}

-- the reader of a source
abbrev pub reader_of : {R : Type 0} → FromRead R → R
reader_of s = s.reader
