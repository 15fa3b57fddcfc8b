use Rattle.std.proofs.Common.{◌≡◌, arith}
use Rattle.buffer_plan.proofs.Common.{common_steps, plan_view}
use Rattle.buffer_plan.proofs.LeastLemmas.{least}
use Rattle.buffer_plan.proofs.plan.Plan.slot_count.Goals as goal

pub returns-clause-least : goal.returns-clause-least
returns-clause-least c steps images plan slot valid slots has =
    let count : c.len.result ≡ (plan_view c.args.self.now).slot_count c.args.format =
    grind (arith, common_steps) in
    let most =
    least steps images (plan_view c.args.self.now) c.args.format plan slot valid slots has in
    omega arith
