use Rattle.std.proofs.Common.{◌≡◌, Ok, Some, subst, rules}
use Rattle.client_model.specs.Delays.{register_auto_aging}
use Rattle.client_model.proofs.DelayStepLaws.{register_keeps}
use Rattle.client_model.proofs.OutcomeLaws.{Keeps}
use Rattle.client_contexts.proofs.Common.{Empty}
use Rattle.client_contexts.proofs.delays.register_auto_aging.Goals as goal

pub returns-clause-within_limits : goal.returns-clause-within_limits
returns-clause-within_limits c = λ limits h.
    let done :
    register_auto_aging c.args.table.now c.args.graph c.args.delay
    ≡ Ok (Empty, Some c.register.new.self) =
    search rules in
    (subst (Keeps limits c.args.table.now) done
    (register_keeps limits c.args.table.now c.args.graph c.args.delay h)).keeps
