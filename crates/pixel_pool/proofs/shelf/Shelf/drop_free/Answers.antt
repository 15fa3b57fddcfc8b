use Rattle.std.proofs.Common.{sym, arith}
use Rattle.pixel_pool.proofs.StackLemmas.{empty_stacks, empty_capacity, no_values}
use Rattle.pixel_pool.proofs.shelf.Shelf.drop_free.Goals as goal

pub invariant_of-self : goal.invariant_of-self
invariant_of-self g c = (
  omega (
    arith,
    c.self.invariant.0,
    c.clear.ensures.capacity,
    no_values c.clear.new.self
        c.clear.ensures.empty,
  ),
  empty_stacks c.clear.new.self c.clear.ensures.empty,
  sym empty_capacity,
)
