use Rattle.std.proofs.Common.{arith}
use Rattle.vx_requests.specs.declared.stream.fault.Failed.{Failed}
use Rattle.vx_requests.proofs.TransferSteps.{writes_more, failed_writes-some}
use Rattle.vx_requests.proofs.stream.transfer.write_all.Goals as goal

pub loop-rest-preserved : goal.loop-rest-preserved
loop-rest-preserved g c =
    let (done, split, appended) = c.loop-rest.invariant.taken in
    record {
      taken =
          writes_more _ _ _ _ done c.loop-rest.rest.now c.in-Ok.count split appended
          c.in-Ok.ensures.bytes;
      failed =
          omega (
            arith,
            c.loop-rest.invariant.failed,
            c.in-Ok.ensures.failed,
            failed_writes-some
                Failed c.in-Ok.count c.loop-rest.rest.now c.in-Ok.count-test.1,
          );
    }
