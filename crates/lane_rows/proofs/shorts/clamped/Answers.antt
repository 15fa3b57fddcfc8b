use Rattle.lane_rows.proofs.NarrowLaws.{each_nearest, nearest_are}
use Rattle.lane_rows.proofs.shorts.clamped.Goals as goal

pub overflow_cast-result : goal.overflow_cast-result
overflow_cast-result c = each_nearest c.args.numbers c.requires.len c.requires.fits

pub returns : goal.returns
returns c = nearest_are c.args.numbers c.requires.len c.requires.fits
