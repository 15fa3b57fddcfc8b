use Rattle.std.proofs.Common.{pos, arith, w32, FitsSigned}
use Rattle.std.proofs.lemmas.Simd.{Each1-from_get_or}
use Rattle.lane_rows.proofs.ShortLaws.{read_whole}
use Rattle.lane_rows.proofs.scales.sixteen.Goals as goal

pub returns : goal.returns
returns c =
    let row = c.args.row.now in
    let read =
    read_whole w32 16 row c.requires
    (Each1-from_get_or (FitsSigned w32) row (pos 0)
    (λ j below. c.loop-number.invariant j (omega (arith, below, c.loop-number-test.false))))
    in
    record { value = read.0; fits = read.1 }
