use Rattle.std.proofs.Common.{sym, arith}
use Rattle.pixel_pool.proofs.StackLemmas.{empty_stacks, empty_capacity, no_values}
use Rattle.pixel_pool.proofs.shelf.Shelf.new.Goals as goal

pub invariant_of-result : goal.invariant_of-result
invariant_of-result g c = (
  omega (arith, no_values c.new.result c.new.ensures.empty),
  empty_stacks c.new.result c.new.ensures.empty,
  sym empty_capacity,
)
