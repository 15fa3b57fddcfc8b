use Rattle.std.proofs.Common.{◌≡◌, sym, ◌∙◌, arith}
use Rattle.pixel_pool.proofs.laws.taken_and_given_back.Goals as goal

pub returns-clause-samples : goal.returns-clause-samples
returns-clause-samples c =
    let is : c.in_ok-block.block.count ≡ c.args.count =
    sym c.in_ok-block.ensures.whole ∙ c.in_ok-block.ensures.count in
    rw (c.in_ok-block.ensures.format, is) at
    (c.give_back.ensures.samples c.in_ok-block.ensures.memory (omega (arith, is, c.requires)))
