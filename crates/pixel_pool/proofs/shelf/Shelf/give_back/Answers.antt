use Rattle.std.proofs.Common.{◌<◌, ◌+◌, length, refl, arith}
use Rattle.pixel_pool.specs.Shelf.{stack_at, lengths}
use Rattle.pixel_pool.specs.Classes.{class_count}
use Rattle.std.proofs.Math.Nat.{add-mul}
use Rattle.pixel_pool.proofs.ClassLemmas.{capacity_small, largest_capacity}
use Rattle.pixel_pool.proofs.FreeLemmas.{capacity_bound, fits_again}
use Rattle.pixel_pool.proofs.StackLemmas.{lent_some, stack_counted, pushed, capacity_changed, back_value, back_count}
use Rattle.pixel_pool.proofs.shelf.Shelf.give_back.Goals as goal

pub overflow_add-self : goal.overflow_add-self
overflow_add-self g c =
    let inside : c.class_of-class.result.0 < length c.self.inside.stacks =
    omega (arith, c.class_of-class.ensures.class.class_known, c.self.invariant.1.all) in
    omega (
      arith,
      lent_some c.self.inside.stacks c.self.inside.lent c.args.self.now c.self.view_is c.requires,
      stack_counted c.self.inside.stacks c.class_of-class.result.0 inside,
      c.self.invariant.1.counted,
      c.self.invariant.0,
    )

pub overflow_add-self-2 : goal.overflow_add-self-2
overflow_add-self-2 g c =
    omega (
      arith,
      c.class_of-class.ensures.capacity,
      c.self.invariant.2,
      capacity_bound (lengths c.self.inside.stacks) class_count (omega arith),
      c.self.invariant.1.counted,
      c.self.invariant.0,
      c.capacity.ensures,
      capacity_small c.class_of-class.result.0
          (omega (arith, c.class_of-class.ensures.class.class_known)),
    )

pub invariant_of-self : goal.invariant_of-self
invariant_of-self g c =
    let inside : c.class_of-class.result.0 < length c.self.inside.stacks =
    omega (arith, c.class_of-class.ensures.class.class_known, c.self.invariant.1.all) in (
      omega (
        arith,
        lent_some c.self.inside.stacks c.self.inside.lent c.args.self.now
            c.self.view_is c.requires,
        c.self.invariant.0,
        c.insert_reserved-top.ensures.len,
        c.insert_reserved-top.ensures.capacity,
      ),
      pushed c.self.inside.stacks c.self.inside.free c.insert_reserved-top.new.self
          c.insert_reserved-top.result
          (record {
            samples = c.args.samples;
            class = c.class_of-class.result.0;
            capacity =
                c.class_of-class.result.1;
            under = stack_at c.self.inside.stacks
                c.class_of-class.result.0;
          })
          c.self.invariant.1 inside
          (rw (c.capacity.ensures) at c.class_of-class.ensures.class.within)
          c.class_of-class.ensures.capacity refl c.insert_reserved-top.ensures.was_vacant
          c.insert_reserved-top.ensures.updates c.insert_reserved-top.ensures.len,
      let changed = capacity_changed c.self.inside.stacks c.class_of-class.result.0
          (record {
            top = c.insert_reserved-top.result;
            len =
                (stack_at c.self.inside.stacks c.class_of-class.result.0).len + 1;
          })
          inside c.self.invariant.1.all in
          omega
          (arith, c.class_of-class.ensures.capacity, c.self.invariant.2, rw add-mul at changed),
    )

pub returns-clause-free : goal.returns-clause-free
returns-clause-free g c =
    let inside : c.class_of-class.result.0 < length c.self.inside.stacks =
    omega (arith, c.class_of-class.ensures.class.class_known, c.self.invariant.1.all) in
    rw (← c.capacity.ensures)
    (back_value c.self.inside.stacks c.class_of-class.result.0 c.self.inside.lent
    c.capacity.result c.insert_reserved-top.result c.args.self.now c.self.view_is
    c.class_of-class.ensures.class inside)

pub returns-clause-samples : goal.returns-clause-samples
returns-clause-samples g c count fits small =
    fits_again count _ _ _ (omega (arith, largest_capacity, small)) fits (returns-clause-free g c)

pub returns-clause-blocks : goal.returns-clause-blocks
returns-clause-blocks g c =
    let inside : c.class_of-class.result.0 < length c.self.inside.stacks =
    omega (arith, c.class_of-class.ensures.class.class_known, c.self.invariant.1.all) in
    back_count c.self.inside.stacks c.class_of-class.result.0 c.self.inside.lent
    c.insert_reserved-top.result c.args.self.now c.self.view_is
    (lent_some c.self.inside.stacks c.self.inside.lent c.args.self.now c.self.view_is c.requires)
    inside
