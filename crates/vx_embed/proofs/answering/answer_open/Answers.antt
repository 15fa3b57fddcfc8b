use Rattle.std.proofs.Common.{rules, ap, ◌+◌}
use Rattle.vx_embed.proofs.TurnAnswers.{too_short}
use Rattle.vx_embed.proofs.answering.answer_open.Goals as goal

pub returns : goal.returns
returns c =
    let cut = c.serve_into.ensures.cut c.if-serve_into.false in
    too_short c.args.connection c.args.server.now c.serve_into.new.server c.args.front.now
    c.args.back.now _ c.serve_into.new.sink.bytes.now c.serve_into.new.sink.rest.now cut.0 _
    (search rules) (search rules) (ap (λ n. n + 4) c.length_said.ensures)
    c.serve_into.ensures.stays_open cut.1
