use Rattle.std.proofs.Common.{arith}
use Rattle.pixel_pool.proofs.StackLemmas.{len_with_capacity, with_capacity}
use Rattle.pixel_pool.proofs.shelf.Shelf.add.Goals as goal

pub invariant_of-self : goal.invariant_of-self
invariant_of-self g c =
    let kept = c.reserve.ensures.rest_kept in (
      omega (
        arith,
        c.self.invariant.0,
        len_with_capacity c.self.inside.free c.reserve.new.self
            kept,
        c.reserve.ensures.capacity,
      ),
      with_capacity c.self.inside.stacks c.self.inside.free c.reserve.new.self
          c.self.invariant.1 kept,
      c.self.invariant.2,
    )

pub invariant_of-self-2 : goal.invariant_of-self-2
invariant_of-self-2 g c =
    let kept = c.reserve.ensures.rest_kept in (
      omega (arith, c.in_ok-reserve.ensures.room),
      with_capacity c.self.inside.stacks c.self.inside.free c.reserve.new.self
          c.self.invariant.1 kept,
      c.self.invariant.2,
    )
