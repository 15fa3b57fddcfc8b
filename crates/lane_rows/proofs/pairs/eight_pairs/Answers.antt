use Rattle.lane_rows.proofs.PairLaws.{evens, casts_fit, eight_sums}
use Rattle.lane_rows.proofs.pairs.eight_pairs.Goals as goal

pub overflow_cast-result : goal.overflow_cast-result
overflow_cast-result c = casts_fit c.args.row.now c.args.index evens c.requires.fit

pub overflow_cast-result-2 : goal.overflow_cast-result-2
overflow_cast-result-2 c = casts_fit c.args.table.now c.args.at evens c.requires.table_fits

pub returns : goal.returns
returns c a b is =
    eight_sums c.args.row.now c.args.table.now c.args.index c.args.at a b c.requires.room
    c.requires.table_room c.requires.fit c.requires.table_fits is
