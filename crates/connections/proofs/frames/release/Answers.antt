use Rattle.connections.proofs.NumberingLemmas.{released}
use Rattle.connections.proofs.frames.release.Goals as goal

pub returns : goal.returns
returns c =
    released c.args.number c.args.runtime.now c.apply-reply.new.self c.apply-reply.result
    c.apply-reply.ensures.applies
