use Rattle.vx_requests.proofs.Common.{answer}
use Rattle.vx_requests.proofs.Alone.{each_alone}
use Rattle.vx_requests.proofs.laws.streams.each_alone.Goals as goal

pub returns : goal.returns
returns c = λ limits. each_alone (answer limits)
