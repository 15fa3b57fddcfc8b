use Rattle.vx_requests.proofs.Common.{answer}
use Rattle.vx_requests.proofs.Alone.{isolated}
use Rattle.vx_requests.proofs.laws.streams.isolated.Goals as goal

pub returns : goal.returns
returns c = λ limits. isolated (answer limits)
