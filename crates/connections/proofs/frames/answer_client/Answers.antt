use Rattle.std.proofs.Common.{◌∙◌, sym}
use Rattle.std.proofs.lemmas.Result.{err_from_is_err_and}
use Rattle.connections.proofs.NumberingLemmas.{same_states, is_open-same, spare_unused, numbered_after}
use Rattle.connections.proofs.AnsweredLemmas.{frame_leaves, fault_leaves, fault_is, fault_others, answered_is, lost_is, leaves_others, same_open}
use Rattle.connections.proofs.frames.answer_client.Goals as goal

pub returns-in_err-content-clause-numbered : goal.returns-in_err-content-clause-numbered
returns-in_err-content-clause-numbered g c =
    same_states c.args.numbers.now c.args.runtime.now c.answer_body.new.runtime
    (fault_leaves c.args.runtime.now.limits _ _ c.find-number.result c.args.op c.args.count _
    c.args.runtime.now c.answer_body.new.runtime c.in_err-content.ensures.answered)
    c.requires.numbered

pub returns-in_err-content-clause-answered : goal.returns-in_err-content-clause-answered
returns-in_err-content-clause-answered g c =
    let p = err_from_is_err_and c.from_residual.result c.from_residual.ensures.1 in
    rw (p.1, p.2)
    (fault_is c.args.runtime.now.limits _ _ c.args.connection c.args.client c.find-number.result
    c.args.op c.args.count _ c.args.numbers.now c.args.runtime.now c.answer_body.new.runtime
    c.in_err-content.ensures.answered)

pub returns-in_err-content-clause-others : goal.returns-in_err-content-clause-others
returns-in_err-content-clause-others g c =
    fault_others c.args.connection c.args.numbers.now c.args.runtime.now
    c.answer_body.new.runtime c.in_err-content.ensures.limits
    (fault_leaves c.args.runtime.now.limits _ _ c.find-number.result c.args.op c.args.count _
    c.args.runtime.now c.answer_body.new.runtime c.in_err-content.ensures.answered)

pub returns-in_err-content-clause-still_open : goal.returns-in_err-content-clause-still_open
returns-in_err-content-clause-still_open g c =
    is_open-same c.args.numbers.now c.args.runtime.now c.answer_body.new.runtime c.args.connection

pub settle-requires-clause-spare : goal.settle-requires-clause-spare
settle-requires-clause-spare g c =
    λ x y. spare_unused c.args.numbers.now c.args.runtime.now c.requires.numbered x y

pub settle-requires-clause-no_context : goal.settle-requires-clause-no_context
settle-requires-clause-no_context g c =
    let leaves =
    frame_leaves c.args.runtime.now.limits _ _ c.find-number.result c.args.op c.args.count
    c.in_ok-content.content c.args.runtime.now c.answer_body.new.runtime
    c.in_ok-content.ensures.limits c.in_ok-content.ensures.answered in
    λ differs. leaves.states c.args.numbers.now.spare (λ e. differs (sym e))
    ∙ c.requires.numbered.spare

pub returns-in-Ok-clause-numbered : goal.returns-in-Ok-clause-numbered
returns-in-Ok-clause-numbered g c =
    let leaves =
    frame_leaves c.args.runtime.now.limits _ _ c.find-number.result c.args.op c.args.count
    c.in_ok-content.content c.args.runtime.now c.answer_body.new.runtime
    c.in_ok-content.ensures.limits c.in_ok-content.ensures.answered in
    numbered_after c.args.connection c.args.client c.find-number.result c.args.numbers.now
    c.args.runtime.now c.requires.numbered c.find-number.ensures c.settle.new.numbers
    c.answer_body.new.runtime c.settle.new.runtime leaves c.in-Ok.ensures.renumbers

pub returns-in-Ok-clause-answered : goal.returns-in-Ok-clause-answered
returns-in-Ok-clause-answered g c =
    let leaves =
    frame_leaves c.args.runtime.now.limits _ _ c.find-number.result c.args.op c.args.count
    c.in_ok-content.content c.args.runtime.now c.answer_body.new.runtime
    c.in_ok-content.ensures.limits c.in_ok-content.ensures.answered in
    answered_is c.args.connection c.args.client c.find-number.result c.args.numbers.now
    c.args.runtime.now c.requires.numbered c.find-number.ensures c.settle.new.numbers
    c.answer_body.new.runtime c.settle.new.runtime _ leaves
    c.in-Ok.ensures c.args.runtime.now.limits _ _ c.args.op c.args.count c.in_ok-content.content
    c.in_ok-content.ensures.answered

pub returns-in-Ok-clause-others : goal.returns-in-Ok-clause-others
returns-in-Ok-clause-others g c =
    let leaves =
    frame_leaves c.args.runtime.now.limits _ _ c.find-number.result c.args.op c.args.count
    c.in_ok-content.content c.args.runtime.now c.answer_body.new.runtime
    c.in_ok-content.ensures.limits c.in_ok-content.ensures.answered in
    leaves_others c.args.connection c.args.client c.find-number.result c.args.numbers.now
    c.args.runtime.now c.requires.numbered c.find-number.ensures c.settle.new.numbers
    c.answer_body.new.runtime c.settle.new.runtime leaves c.in-Ok.ensures.renumbers

pub returns-in-Ok-clause-still_open : goal.returns-in-Ok-clause-still_open
returns-in-Ok-clause-still_open g c =
    same_open c.args.connection c.args.client c.find-number.result c.args.numbers.now
    c.args.runtime.now c.requires.numbered c.find-number.ensures c.settle.new.numbers
    c.answer_body.new.runtime c.settle.new.runtime c.in-Ok.ensures.renumbers

pub returns-in-Err-clause-numbered : goal.returns-in-Err-clause-numbered
returns-in-Err-clause-numbered g c =
    let leaves =
    frame_leaves c.args.runtime.now.limits _ _ c.find-number.result c.args.op c.args.count
    c.in_ok-content.content c.args.runtime.now c.answer_body.new.runtime
    c.in_ok-content.ensures.limits c.in_ok-content.ensures.answered in
    numbered_after c.args.connection c.args.client c.find-number.result c.args.numbers.now
    c.args.runtime.now c.requires.numbered c.find-number.ensures c.settle.new.numbers
    c.answer_body.new.runtime c.settle.new.runtime leaves c.in-Err.ensures.renumbers

pub returns-in-Err-clause-answered : goal.returns-in-Err-clause-answered
returns-in-Err-clause-answered g c =
    let leaves =
    frame_leaves c.args.runtime.now.limits _ _ c.find-number.result c.args.op c.args.count
    c.in_ok-content.content c.args.runtime.now c.answer_body.new.runtime
    c.in_ok-content.ensures.limits c.in_ok-content.ensures.answered in
    lost_is c.args.connection c.args.client c.find-number.result c.args.numbers.now
    c.args.runtime.now c.requires.numbered c.find-number.ensures c.settle.new.numbers
    c.answer_body.new.runtime c.settle.new.runtime _ leaves
    c.in-Err.ensures c.args.runtime.now.limits _ _ c.args.op c.args.count
    c.in_ok-content.content c.in_ok-content.ensures.answered

pub returns-in-Err-clause-others : goal.returns-in-Err-clause-others
returns-in-Err-clause-others g c =
    let leaves =
    frame_leaves c.args.runtime.now.limits _ _ c.find-number.result c.args.op c.args.count
    c.in_ok-content.content c.args.runtime.now c.answer_body.new.runtime
    c.in_ok-content.ensures.limits c.in_ok-content.ensures.answered in
    leaves_others c.args.connection c.args.client c.find-number.result c.args.numbers.now
    c.args.runtime.now c.requires.numbered c.find-number.ensures c.settle.new.numbers
    c.answer_body.new.runtime c.settle.new.runtime leaves c.in-Err.ensures.renumbers

pub returns-in-Err-clause-still_open : goal.returns-in-Err-clause-still_open
returns-in-Err-clause-still_open g c =
    same_open c.args.connection c.args.client c.find-number.result c.args.numbers.now
    c.args.runtime.now c.requires.numbered c.find-number.ensures c.settle.new.numbers
    c.answer_body.new.runtime c.settle.new.runtime c.in-Err.ensures.renumbers
