use Rattle.std.proofs.Common.{sym, ◌∙◌, ◌++◌}
use Rattle.vx_embed.proofs.TurnAnswers.{session_of}
use Rattle.vx_embed.proofs.feqyldan_serve.Goals as goal

pub returns-clause-one_session : goal.returns-clause-one_session
returns-clause-one_session c = λ zero.
    session_of c.args.connection c.args.handle.now c.serve-status.new.handle c.args.front.now
    c.args.back.now (c.serve-status.new.reply ++ c.serve-status.new.rest)
    c.serve-status.result.1 c.serve-status.result.0
    c.serve-status.ensures (sym c.number.ensures ∙ zero)
