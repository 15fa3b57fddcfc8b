use Rattle.std.proofs.Common.{arith, rules}
use Rattle.std.proofs.Math.Nat.{add-mul}
use Rattle.vx_requests.proofs.Common.{err_from_is_err_and, sample_bytes}
use Rattle.vx_requests.proofs.ReadCounts.{KeepsCount-more}
use Rattle.vx_requests.proofs.SampleReads.{reads_piece, part_of_samples}
use Rattle.vx_requests.proofs.frame.samples.read_wide.Goals as goal

pub returns-in_err-done-clause-err : goal.returns-in_err-done-clause-err
returns-in_err-done-clause-err g c =
    let p = err_from_is_err_and c.from_residual.result c.from_residual.ensures.1 in
    let before = c.loop-done.invariant in
    rw (p.1, p.2)
    (part_of_samples g.S.WideSample.value _ _ _ g.S.WideSample.format c.loop-done.done _ _
    c.loop-done.samples _ before.within (search rules) before.samples c.in_err-done.ensures.err)

pub loop-done-preserved : goal.loop-done-preserved
loop-done-preserved g c =
    let before = c.loop-done.invariant in
    let read = c.in_ok-done.ensures in
    record {
      within = search rules;
      samples =
          reads_piece g.S.WideSample.value _ _ _ g.S.WideSample.format c.loop-done.done
          c.in_ok-done.field-0 c.loop-done.samples c.read_piece.new.samples before.within
          read.within before.samples read.ok;
      counted = KeepsCount-more _ _ _ _ _ _ _ 0 before.counted read.counted;
      sparing =
          omega (
            arith,
            before.sparing,
            read.sparing,
            add-mul c.loop-done.done c.in_ok-done.field-0
                (sample_bytes g.S.WideSample.format),
          );
    }
