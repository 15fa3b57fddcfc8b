use Rattle.image_tests.proofs.RowLaws.{bytes_up_to}
use Rattle.image_tests.proofs.sums.sum_rows.Goals as goal

pub sum3-requires-clause-first : goal.sum3-requires-clause-first
sum3-requires-clause-first c = bytes_up_to c.args.first.now c.type_inv.first

pub sum3-requires-clause-second : goal.sum3-requires-clause-second
sum3-requires-clause-second c = bytes_up_to c.args.second.now c.type_inv.second

pub sum3-requires-clause-third : goal.sum3-requires-clause-third
sum3-requires-clause-third c = bytes_up_to c.args.third.now c.type_inv.third

pub weighted3-requires-clause-first : goal.weighted3-requires-clause-first
weighted3-requires-clause-first c = bytes_up_to c.args.first.now c.type_inv.first

pub weighted3-requires-clause-second : goal.weighted3-requires-clause-second
weighted3-requires-clause-second c = bytes_up_to c.args.second.now c.type_inv.second

pub weighted3-requires-clause-third : goal.weighted3-requires-clause-third
weighted3-requires-clause-third c = bytes_up_to c.args.third.now c.type_inv.third
