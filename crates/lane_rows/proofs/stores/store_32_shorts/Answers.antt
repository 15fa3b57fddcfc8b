use Rattle.std.proofs.Common.{◌∙◌, arith}
use Rattle.lane_rows.proofs.SampleLaws.{samples_fit}
use Rattle.lane_rows.proofs.StoreLaws.{shorts_part, halves_joined}
use Rattle.lane_rows.proofs.stores.store_32_shorts.Goals as goal

pub returns : goal.returns
returns c =
    let items = c.args.items in
    let fits = samples_fit items c.prove_shorts.ensures in
    let first =
    c.store_16_shorts.ensures ∙ shorts_part items 32 0 16 fits (omega arith) (omega arith) tt in
    let second =
    c.store_16_shorts-2.ensures ∙ shorts_part items 32 16 16 fits (omega arith) (omega arith) tt in
    rw (first, second) (halves_joined items 16 (omega arith))
