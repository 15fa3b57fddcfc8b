use Rattle.vx_requests.proofs.KeptStates.{session_keeps}
use Rattle.vx_requests.proofs.laws.streams.session_keeps.Goals as goal

pub returns : goal.returns
returns c = session_keeps
