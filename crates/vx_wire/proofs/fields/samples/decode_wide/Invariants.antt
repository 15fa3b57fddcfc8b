use Rattle.std.proofs.Common.{◌≡◌, map, take}
use Rattle.vx_wire.proofs.Common.{decoded_samples}
use Rattle.vx_wire.proofs.fields.samples.decode_wide.Given as goal

abbrev pub invariant-loop-i : goal.invariant-loop-i
invariant-loop-i g l =
    map g.S.WideSample.value (take l.i l.samples)
    ≡ decoded_samples g.S.WideSample.format l.i l.bytes
