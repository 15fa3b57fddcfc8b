use Rattle.std.proofs.Common.{arith}
use Rattle.vx_requests.proofs.Common.{err_from_is_err_and, encoded_sample}
use Rattle.vx_requests.proofs.WrittenPieces.{block_more, Writes-block}
use Rattle.vx_requests.proofs.frame.samples.write_wide.Goals as goal

pub returns-in_err-write_sample_block : goal.returns-in_err-write_sample_block
returns-in_err-write_sample_block g c =
    let p = err_from_is_err_and c.from_residual.result c.from_residual.ensures.1 in
    let (done, split, appended) = c.loop-rest.invariant.taken in
    rw (p.1, p.2)
    (Writes-block _ _ (λ s. encoded_sample g.S.WideSample.format (g.S.WideSample.value s)) _ _ _
    _ done c.loop-rest.rest.now c.split_at.result.0.now c.split_at.result.1.now _ split
    c.split_at.ensures.by_index.0 appended c.loop-rest.invariant.failed
    c.in_err-write_sample_block.ensures)

pub loop-rest-preserved : goal.loop-rest-preserved
loop-rest-preserved g c =
    let (done, split, appended) = c.loop-rest.invariant.taken in
    record {
      taken =
          block_more (λ s. encoded_sample g.S.WideSample.format (g.S.WideSample.value s)) _ _ _
          _ done c.loop-rest.rest.now c.split_at.result.0.now c.split_at.result.1.now split
          c.split_at.ensures.by_index.0 appended c.in_ok-write_sample_block.ensures.ok;
      failed =
          omega (arith, c.loop-rest.invariant.failed, c.in_ok-write_sample_block.ensures.failed);
    }
