use Rattle.std.proofs.Common.{arith}
use Rattle.client_model.proofs.GraphStepLaws.{release_keeps}
use Rattle.client_contexts.proofs.objects.release.Goals as goal

pub returns-in-Ok-clause-within_limits : goal.returns-in-Ok-clause-within_limits
returns-in-Ok-clause-within_limits c =
    λ limits h. grind (arith, release_keeps limits c.args.table.now c.args.name h)
