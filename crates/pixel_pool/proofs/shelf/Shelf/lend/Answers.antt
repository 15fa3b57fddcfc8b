use Rattle.std.proofs.Common.{arith}
use Rattle.std.proofs.Math.Nat.{add-mul}
use Rattle.pixel_pool.proofs.StackLemmas.{top_free, popped, capacity_changed, lent_value, lent_count}
use Rattle.pixel_pool.proofs.shelf.Shelf.lend.Goals as goal

pub overflow_sub-self : goal.overflow_sub-self
overflow_sub-self g c =
    let top =
    top_free c.self.inside.stacks c.self.inside.free c.self.inside.lent c.args.class
    c.args.self.now c.remove-block.result c.self.view_is c.self.invariant.1 c.requires
    c.remove-block.ensures.value in
    omega (
      arith,
      top.4,
      c.self.invariant.2,
      rw (← top.2.1, add-mul) at
          (capacity_changed c.self.inside.stacks c.args.class c.remove-block.result.under top.0
          c.self.invariant.1.all),
    )

pub invariant_of-self : goal.invariant_of-self
invariant_of-self g c =
    let top =
    top_free c.self.inside.stacks c.self.inside.free c.self.inside.lent c.args.class
    c.args.self.now c.remove-block.result c.self.view_is c.self.invariant.1 c.requires
    c.remove-block.ensures.value in (
      omega
          (arith, c.self.invariant.0, c.remove-block.ensures.len, c.remove-block.ensures.capacity),
      popped c.self.inside.stacks c.self.inside.free c.remove-block.new.self c.args.class
          c.remove-block.result c.self.invariant.1 top.0 top.1
          c.remove-block.ensures.value c.remove-block.ensures.updates c.remove-block.ensures.len,
      omega (
        arith,
        top.4,
        c.self.invariant.2,
        rw (← top.2.1, add-mul) at
            (capacity_changed c.self.inside.stacks c.args.class c.remove-block.result.under
            top.0 c.self.invariant.1.all),
      ),
    )

pub returns-clause-capacity : goal.returns-clause-capacity
returns-clause-capacity g c =
    let top =
    top_free c.self.inside.stacks c.self.inside.free c.self.inside.lent c.args.class
    c.args.self.now c.remove-block.result c.self.view_is c.self.invariant.1 c.requires
    c.remove-block.ensures.value in
    top.3

pub returns-clause-value : goal.returns-clause-value
returns-clause-value g c =
    let top =
    top_free c.self.inside.stacks c.self.inside.free c.self.inside.lent c.args.class
    c.args.self.now c.remove-block.result c.self.view_is c.self.invariant.1 c.requires
    c.remove-block.ensures.value in
    lent_value c.self.inside.stacks c.self.inside.free c.args.class c.self.inside.lent
    c.remove-block.result c.args.self.now c.self.view_is top.2

pub returns-clause-count : goal.returns-clause-count
returns-clause-count g c =
    let top =
    top_free c.self.inside.stacks c.self.inside.free c.self.inside.lent c.args.class
    c.args.self.now c.remove-block.result c.self.view_is c.self.invariant.1 c.requires
    c.remove-block.ensures.value in
    lent_count c.self.inside.stacks c.self.inside.free c.args.class c.self.inside.lent
    c.remove-block.result c.args.self.now c.self.view_is top.2 top.0
