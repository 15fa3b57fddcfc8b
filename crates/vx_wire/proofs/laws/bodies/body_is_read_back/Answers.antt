use Rattle.vx_wire.proofs.SpelledBack.{read_back}
use Rattle.vx_wire.proofs.laws.bodies.body_is_read_back.Goals as goal

pub returns : goal.returns
returns c = read_back
