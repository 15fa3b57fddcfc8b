use Rattle.std.proofs.Common.{arith}
use Rattle.lane_rows.proofs.StoreLaws.{part_is, halves_stored}
use Rattle.lane_rows.proofs.stores.store_32_bytes.Goals as goal

pub returns : goal.returns
returns c =
    let items = c.args.items in
    halves_stored items _ _ _ _ 16 (omega arith)
    (part_is 0 items 32 0 16 (omega arith) (omega arith) tt)
    (part_is 0 items 32 16 16 (omega arith) (omega arith) tt) (omega arith) (omega arith)
