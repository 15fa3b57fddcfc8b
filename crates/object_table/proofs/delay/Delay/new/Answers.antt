use Rattle.std.proofs.Common.{arith, subst, sym}
use Rattle.object_table.proofs.Common.{IsDelay}
use Rattle.object_table.proofs.DelayLemmas.{new_delay_is}
use Rattle.object_table.proofs.delay.Delay.new.Goals as goal

pub returns-clause-delay : goal.returns-clause-delay
returns-clause-delay c =
    let d = c.args.desc in
    let n = c.from-count.result in
    subst IsDelay (sym c.in_ok-images.ensures.value)
    (new_delay_is d n c.prove_sides.ensures
    (omega (arith, c.from-count.ensures, c.get.ensures.limits.0))
    (omega (arith, c.from-count.ensures, c.get.ensures.limits.1)))
