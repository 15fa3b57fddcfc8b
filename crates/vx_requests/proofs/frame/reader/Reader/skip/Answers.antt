use Rattle.std.proofs.Common.{◌+◌, ◌-◌, ◌<◌, ◌^◌, ap, ◌∙◌, rules, length-append, ◌++◌}
use Rattle.vx_requests.proofs.Common.{Consumes-trans, All-append, err_from_is_err_and}
use Rattle.vx_requests.proofs.ReadCounts.{KeepsCount-more}
use Rattle.vx_requests.proofs.Pieces.{part_after}
use Rattle.vx_requests.proofs.frame.reader.Reader.skip.Goals as goal

pub returns-in_err-read_exactly-clause-err : goal.returns-in_err-read_exactly-clause-err
returns-in_err-read_exactly-clause-err g c =
    let p = err_from_is_err_and c.from_residual.result c.from_residual.ensures.1 in
    let (done, before, so_far, bytes) = c.loop-rest.invariant.bytes in
    rw (p.1, p.2)
    (part_after _ _ _ done _ _ _ before (search rules) c.in_err-read_exactly.ensures.err)

pub loop-rest-preserved : goal.loop-rest-preserved
loop-rest-preserved g c =
    let (done, before, so_far, bytes) = c.loop-rest.invariant.bytes in
    let read = c.in_ok-read_exactly.ensures in
    record {
      bytes = (
        done ++ c.read_exactly.new.buf,
        Consumes-trans _ _ _ _ _ before read.ok,
        ap
            (λ n. n + (c.loop-rest.rest - c.min-now.result))
            (length-append done c.read_exactly.new.buf) ∙ search rules,
        All-append
            (λ b. b < 2 ^ 8) done c.read_exactly.new.buf bytes read.bytes,
      );
      counted = KeepsCount-more _ _ _ _ _ _ _ 0 c.loop-rest.invariant.counted read.counted;
      sparing = search rules;
    }
