use Rattle.std.proofs.Common.{vec_capacity}
use Rattle.pixel_pool.proofs.ClassLemmas.{fits_least, fits_more}
use Rattle.pixel_pool.proofs.shelf.resized.Goals as goal

pub returns-then-is_far_too_large-clause-capacity :
    goal.returns-then-is_far_too_large-clause-capacity
returns-then-is_far_too_large-clause-capacity g c fits =
    fits_least c.args.count c.capacity_for.result (vec_capacity c.resize-fits.new.self)
    (vec_capacity c.shrink_to.new.self) c.capacity_for.ensures.class
    (fits_more c.args.count (vec_capacity c.args.samples) (vec_capacity c.resize-fits.new.self)
    fits c.resize-fits.ensures.capacity)
    c.shrink_to.ensures.lower_bound
