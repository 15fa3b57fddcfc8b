use Rattle.std.proofs.Common.{◌≡◌, ◌++◌, length, take, drop, rules, take_at, map-id}
use Rattle.std.proofs.lemmas.Result.{on_ok_weaker}
use Rattle.vx_requests.proofs.SampleReads.{reads_bytes}
use Rattle.vx_requests.proofs.frame.samples.read_samples.Goals as goal

pub returns-in-U8-clause-ok : goal.returns-in-U8-clause-ok
returns-in-U8-clause-ok g c =
    let read = c.read_exactly.new.buf in
    let all : take c.in-U8.bytes.len (read ++ drop (length read) c.in-U8.bytes.items) ≡ read =
    take_at read (drop (length read) c.in-U8.bytes.items) c.in-U8.bytes.len (search rules) in
    rw (c.in-U8.is, all)
    (on_ok_weaker c.read_exactly.result
    (λ e. reads_bytes _ _ read c.read_exactly.ensures.bytes e) c.read_exactly.ensures.ok)

pub returns-in-S16-clause-ok : goal.returns-in-S16-clause-ok
returns-in-S16-clause-ok g c =
    let read = c.read_wide.new.samples in
    let all : take c.in-S16.shorts.len (read ++ drop (length read) c.in-S16.shorts.items) ≡ read =
    take_at read (drop (length read) c.in-S16.shorts.items) c.in-S16.shorts.len (search rules) in
    rw (c.in-S16.is, all) (rw map-id at c.read_wide.ensures.ok)
