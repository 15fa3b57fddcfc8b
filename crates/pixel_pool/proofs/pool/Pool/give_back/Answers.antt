use Rattle.std.proofs.Common.{sym, ◌∙◌}
use Rattle.pixel_pool.proofs.pool.Pool.give_back.Goals as goal

pub returns-in-U8-clause-samples : goal.returns-in-U8-clause-samples
returns-in-U8-clause-samples c keeps small =
    let is = sym c.into_samples.ensures ∙ c.in-U8.is in
    rw is (c.give_back.ensures.samples c.args.block.count (rw is at keeps) small)

pub returns-in-S16-clause-samples : goal.returns-in-S16-clause-samples
returns-in-S16-clause-samples c keeps small =
    let is = sym c.into_samples.ensures ∙ c.in-S16.is in
    rw is (c.give_back-in-S16.ensures.samples c.args.block.count (rw is at keeps) small)

pub returns-in-U32-clause-samples : goal.returns-in-U32-clause-samples
returns-in-U32-clause-samples c keeps small =
    let is = sym c.into_samples.ensures ∙ c.in-U32.is in
    rw is (c.give_back-in-U32.ensures.samples c.args.block.count (rw is at keeps) small)
