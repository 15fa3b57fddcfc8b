use Rattle.std.proofs.Common.{subst}
use Rattle.client_model.proofs.NodeStepLaws.{immediate_keeps}
use Rattle.client_model.proofs.OutcomeLaws.{Keeps}
use Rattle.client_contexts.proofs.ImmediateLemmas.{done_is}
use Rattle.client_contexts.proofs.immediate.run_at_once.Goals as goal

pub returns-clause-within_limits : goal.returns-clause-within_limits
returns-clause-within_limits c = λ limits h.
    let done =
    done_is c.args.table.now c.args.node c.node-node.result c.node-node.ensures.value
    c.run_once.new.table c.in_ok-check_node.ensures.refusal c.run_once.ensures.value in
    (subst (Keeps limits c.args.table.now) done
    (immediate_keeps limits c.args.table.now c.args.node h c.node-node.ensures.node)).keeps
