-- The parts of a sink over a writer.
use Rattle.vx_requests.specs.declared.stream.from_write.FromWrite.{FromWrite}

-- the writer of a sink
abbrev pub writer_of : {W : Type 0} → FromWrite W → W
writer_of s = s.writer
