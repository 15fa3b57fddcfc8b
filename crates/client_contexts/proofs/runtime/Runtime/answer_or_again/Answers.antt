use Rattle.std.proofs.Common.{subst}
use Rattle.client_contexts.proofs.Common.{AppliesToKept, World}
use Rattle.client_contexts.proofs.AgainLemmas.{kept_again}
use Rattle.client_contexts.proofs.runtime.Runtime.answer_or_again.Goals as goal

pub returns-in-Err-clause-kept : goal.returns-in-Err-clause-kept
returns-in-Err-clause-kept c =
    let second =
    subst
    (λ (w : World). AppliesToKept c.args.client c.args.request.now w c.answer-in-Err.new.self
    c.answer-in-Err.result)
    c.drop_free.ensures c.answer-in-Err.ensures.kept in
    kept_again c.args.client c.args.request.now c.args.self.now c.answer.new.self
    c.answer-in-Err.new.self c.in-Err.field-0 c.answer-in-Err.result
    c.in-Err.ensures.applies.limits c.in-Err.ensures.kept second
