use Rattle.std.proofs.Common.{arith}
use Rattle.client_model.proofs.DelayStepLaws.{age_delay_keeps}
use Rattle.client_contexts.proofs.delays.age_delay.Goals as goal

pub returns-clause-within_limits : goal.returns-clause-within_limits
returns-clause-within_limits c =
    λ limits h. grind (arith, age_delay_keeps limits c.args.table.now c.args.name h)
