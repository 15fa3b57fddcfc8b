use Rattle.std.proofs.Common.{arith}
use Rattle.vx_wire.proofs.SampleLoops.{piece_is, decodes_more}
use Rattle.vx_wire.proofs.fields.samples.decode_wide.Goals as goal

pub loop-i-preserved : goal.loop-i-preserved
loop-i-preserved g c =
    decodes_more g.S.WideSample.value g.S.WideSample.format c.loop-i.i c.args.bytes.now _
    c.loop-i.samples c.decode.result
    (omega (arith, c.loop-i-test.true, c.loop-i.auto.samples)) c.loop-i.invariant
    (piece_is c.loop-i.i c.size-size.result _ c.args.bytes.now c.size-size.ensures)
    c.decode.ensures
