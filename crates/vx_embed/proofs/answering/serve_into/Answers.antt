use Rattle.std.proofs.Common.{Some, ◌++◌, sym, ◌∙◌, length-append}
use Rattle.connections.specs.Connections.{states_in}
use Rattle.vx_embed.proofs.TurnAnswers.{cut_reply}
use Rattle.vx_embed.proofs.answering.serve_into.Goals as goal

pub returns-clause-cut : goal.returns-clause-cut
returns-clause-cut c = λ cut.
    let served = c.answer.ensures in
    let old = c.args.sink.now in
    let new = c.answer.new.sink in
    let source = c.answer.new.source in
    cut_reply c.args.server.now.limits (states_in c.args.server.now c.args.connection)
    (states_in c.answer.new.self c.args.connection) c.args.front.now c.args.back.now
    (Some (source.front.now ++ source.back.now)) old.bytes.ghost_name new.bytes.ghost_name
    old.rest.ghost_name new.rest.ghost_name old.count new.count old.failures new.failures
    (old.bytes.now ++ old.rest.now) (new.bytes.now ++ new.rest.now) c.answer.result
    c.requires.frame c.requires.empty.0 served.turn (sym c.is_ok.ensures.value ∙ cut)
    served.read_failed served.ends served.write_failed
    (λ some. new.full some ∙ sym (length-append new.bytes.now new.rest.now))
