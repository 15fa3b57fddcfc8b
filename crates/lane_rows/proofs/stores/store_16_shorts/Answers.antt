use Rattle.std.proofs.Common.{arith}
use Rattle.lane_rows.proofs.SampleLaws.{samples_fit}
use Rattle.lane_rows.proofs.StoreLaws.{shorts_part, halves_stored}
use Rattle.lane_rows.proofs.stores.store_16_shorts.Goals as goal

pub returns : goal.returns
returns c =
    let items = c.args.items in
    let fits = samples_fit items c.prove_shorts.ensures in
    halves_stored items _ _ _ _ 8 (omega arith)
    (shorts_part items 16 0 8 fits (omega arith) (omega arith) tt)
    (shorts_part items 16 8 8 fits (omega arith) (omega arith) tt) (omega arith) (omega arith)
