use Rattle.std.proofs.Common.{◌≡◌, ◌*◌, take}
use Rattle.vx_wire.proofs.Common.{sample_bytes, encoded_sample}
use Rattle.std.specs.List.{flat_map}
use Rattle.vx_wire.proofs.fields.samples.encode.Given as goal

abbrev pub invariant-loop-i : goal.invariant-loop-i
invariant-loop-i g l =
    take (l.i * sample_bytes g.S.WideSample.format) l.bytes
    ≡ flat_map (λ s. encoded_sample g.S.WideSample.format (g.S.WideSample.value s))
    (take l.i l.samples)
