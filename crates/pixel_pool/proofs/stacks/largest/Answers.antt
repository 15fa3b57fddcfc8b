use Rattle.pixel_pool.proofs.FreeLemmas.{none_left}
use Rattle.pixel_pool.proofs.stacks.largest.Goals as goal

pub returns-clause-none : goal.returns-clause-none
returns-clause-none c =
    none_left c.loop-class.found c.args.stacks.now c.loop-class.class c.loop-class-test.false
    c.told-stacks c.loop-class.invariant.none
