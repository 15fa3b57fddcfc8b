use Rattle.std.proofs.Common.{arith, rules}
use Rattle.vx_requests.proofs.TransferSteps.{reads_more}
use Rattle.vx_requests.proofs.stream.transfer.fill.Goals as goal

pub loop-count-preserved : goal.loop-count-preserved
loop-count-preserved g c =
    let read = c.in-Ok.ensures in
    record {
      within = search rules;
      bytes =
          reads_more _ _ _ c.loop-count.count c.in-Ok.more c.loop-count.buf c.read.new.buf
          c.loop-count.invariant.within read.bound.0 c.loop-count.invariant.bytes read.bytes.0;
      counted = omega (arith, c.loop-count.invariant.counted, read.counted);
      once = search rules;
      sparing = omega (arith, c.loop-count.invariant.sparing, read.counted, c.in-Ok.more-test.1);
      failed = omega (arith, c.loop-count.invariant.failed, read.failed);
    }
