use Rattle.std.proofs.Common.{◌∙◌, rules, inr, ap, subst}
use Rattle.std.proofs.lemmas.Result.{err_from_is_err_and}
use Rattle.std.specs.Io.KnownBytes.{Appends}
use Rattle.vx_requests.specs.Frame.Frames.{ReplyFrame, reply_bytes}
use Rattle.vx_requests.specs.Stream.Transfer.{AppendsFront}
use Rattle.vx_requests.proofs.Turns.{answered_payload, failed_payload, failed_turn, cut_turn, served_turn}
use Rattle.connections.proofs.TurnLemmas.{front_turn, told}
use Rattle.connections.proofs.frames.answer_one.Goals as goal

pub returns-in_err-client-clause-turn : goal.returns-in_err-client-clause-turn
returns-in_err-client-clause-turn g c =
    let p =
    err_from_is_err_and c.from_residual-in_err-client.result
    c.from_residual-in_err-client.ensures.1 in
    let read = rw c.in-Some.is at c.in_ok-length.ensures.read in
    rw (p.1, p.2)
    (front_turn _ _ _ _ _ _ c.in-Some.length _ read.1 read.0 c.in_err-client.ensures.err)

pub returns-in_err-content-clause-turn : goal.returns-in_err-content-clause-turn
returns-in_err-content-clause-turn g c =
    let p =
    err_from_is_err_and c.from_residual-in_err-content.result
    c.from_residual-in_err-content.ensures.1 in
    let read = rw c.in-Some.is at c.in_ok-length.ensures.read in
    let failed =
    failed_payload c.args.runtime.now.limits _ _ _ _ _ c.in_ok-client.client c.in_ok-client.op
    c.in-Some.length _ read.0 c.in_ok-client.ensures.ok c.in_err-content.ensures.answered in
    rw (p.1, p.2) (failed_turn _ _ _ _ _ _ _ c.in-Some.length read.1 _ read.0 failed)

pub returns-in_err-write_content-clause-turn : goal.returns-in_err-write_content-clause-turn
returns-in_err-write_content-clause-turn g c =
    let p =
    err_from_is_err_and c.from_residual-in_err-write_content.result
    c.from_residual-in_err-write_content.ensures.1 in
    let read = rw c.in-Some.is at c.in_ok-length.ensures.read in
    let payload =
    answered_payload c.args.runtime.now.limits _ _ _ _ _ c.in_ok-client.client c.in_ok-client.op
    c.in-Some.length c.in_ok-content.content (search rules) (search rules) read.0
    c.in_ok-client.ensures.ok c.in_ok-content.ensures.answered in
    let reply =
    told c.args.runtime.now.limits c.answer_client.new.runtime c.answer_client.new.numbers
    c.args.connection c.in_ok-client.client c.find-number.result c.in_ok-client.op
    c.in_ok-content.content
    c.in_ok-content.ensures.numbered c.find-number.ensures c.in_ok-content.ensures.others.limits in
    let wrote = c.in_err-write_content.ensures.sent in
    rw (p.1, p.2)
    (inr
    (cut_turn _ _ _ _ _ _ _ _ c.in-Some.length _ read.1 _ payload wrote.fault
    (subst
    (λ (r : ReplyFrame). AppendsFront (g.K.Sink.taken c.args.sink.now)
    (g.K.Sink.taken c.write_content.new.sink) (reply_bytes r))
    reply wrote.err)))

pub returns-clause-turn : goal.returns-clause-turn
returns-clause-turn g c =
    let read = rw c.in-Some.is at c.in_ok-length.ensures.read in
    let payload =
    answered_payload c.args.runtime.now.limits _ _ _ _ _ c.in_ok-client.client c.in_ok-client.op
    c.in-Some.length c.in_ok-content.content (search rules) (search rules) read.0
    c.in_ok-client.ensures.ok c.in_ok-content.ensures.answered in
    let reply =
    told c.args.runtime.now.limits c.answer_client.new.runtime c.answer_client.new.numbers
    c.args.connection c.in_ok-client.client c.find-number.result c.in_ok-client.op
    c.in_ok-content.content
    c.in_ok-content.ensures.numbered c.find-number.ensures c.in_ok-content.ensures.others.limits in
    let wrote = c.in_ok-write_content.ensures in
    served_turn _ _ _ _ _ _ _ _ c.in-Some.length c.in_ok-write_content.field-0 read.1 _ payload
    (subst
    (λ (r : ReplyFrame). Appends (g.K.Sink.taken c.args.sink.now)
    (g.K.Sink.taken c.write_content.new.sink) (reply_bytes r))
    reply wrote.sent.ok)
    (wrote.code ∙ ap (λ (r : ReplyFrame). r.code) reply)
