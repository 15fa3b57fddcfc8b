use Rattle.std.proofs.Common.{◌≡◌, rules, map, pos, ◌∙◌}
use Rattle.vx_wire.proofs.SampleBytes.{decoded-U8}
use Rattle.vx_wire.proofs.fields.samples.decode.Goals as goal

pub returns-in_ok-to_vec-in-U8-clause-value : goal.returns-in_ok-to_vec-in-U8-clause-value
returns-in_ok-to_vec-in-U8-clause-value c =
    let same : map pos c.in_ok-to_vec-in-U8.field-0.items ≡ map pos c.args.bytes.now =
    search rules in
    rw c.in-U8.is (same ∙ decoded-U8 c.args.count c.args.bytes.now (rw c.in-U8.is at c.requires))
